-- What is promised of a conversion, in the order in which a reader meets it.
use Rattle.std.specs.Prelude.{◌≡◌, ℕ, List, [], ◌∷◌, ◌++◌}
use Rattle.vd_trees.specs.declared.revision.Revision.{Revision}
use Rattle.vd_trees.specs.declared.revision.Revision.TheVariants.{V2019, V1993}
use Rattle.vd_trees.specs.declared.rows.Row.{Row}
use Rattle.vd_first_lex.specs.declared.selected.Selected.{Selected}
use Rattle.vd_first_lex.specs.declared.tokens.Token.{Token}
use Rattle.vd_first_lex.specs.Lexis.{IsTokenList}
use Rattle.vd_first_lex.specs.Lexings.{plain_of}
use Rattle.vd_first_grammar.specs.Derivations.{File, IsFile, file_tokens}
use Rattle.vd_first_grammar.specs.Conditions.{MeetsConditions}
use Rattle.vd_first_grammar.specs.Refusals.{AllNamesKnown}
use Rattle.vd_first_grammar.specs.Shapes.{file_shape}
use Rattle.vd_first_print.specs.Layout.{layout_of}
use Rattle.vd_first_elaboration.specs.Interfaces.{interface_of}
use Rattle.vd_first_correspondence.specs.WholeMaps.{IsWholeMap, HasTops}
use Rattle.vd_first_correspondence.specs.SameRuns.{HaveSameRun}
use Rattle.vd_first_correspondence.specs.SameTraces.{TreesShowSame}

-- the lines of a file are a text of this revision, with this derivation: its tokens are in the grammar, and nothing in it is refused
pub record IsText (r : Revision) (s : Selected) (f : File) : Type 0 where
  pub tokens : List Token
  pub is_list : IsTokenList r s tokens
  pub is_file : IsFile r f
  pub tokens_are : file_tokens f ≡ tokens
  pub conditions : MeetsConditions f
  pub known : AllNamesKnown f

-- these bytes are a 1993 text
abbrev pub IsDesign : List ℕ → File → Type 0
IsDesign design g = IsText V1993 (plain_of 0 design) g

-- the bytes are a text of the first language for 1993 text, in which nothing is refused. This is about the bytes, and not about a
-- tree that was held when they were made
abbrev pub IsIn93 : List ℕ → Type 0
IsIn93 design = (g : File) × IsDesign design g

-- the bytes are their own tokens, laid out
pub record IsLaidOut (design : List ℕ) : Type 0 where
  pub tokens : List Token
  pub end : Token
  pub is_list : IsTokenList V1993 (plain_of 0 design) (tokens ++ end ∷ [])
  pub layout : design ≡ layout_of tokens

-- whatever derivations the source and the bytes have, both have the tops of the source: its entity, with its architecture named or not
abbrev pub HaveTops : Selected → List ℕ → Type 0
HaveTops s design =
    (f g : File) → IsText V2019 s f → IsDesign design g
    → HasTops (file_shape f) f.entity.text f.architecture.text × HasTops (file_shape g) f.entity.text f.architecture.text

-- the map is whole for every top
abbrev pub HasWholeMap : Selected → List ℕ → List Row → Type 0
HasWholeMap s design rows = (f g : File) → IsText V2019 s f → IsDesign design g → IsWholeMap rows (file_shape f) (file_shape g)

-- the units stand in order under their names, and the ports with names, order, modes and marks
abbrev pub KeepsInterface : Selected → List ℕ → Type 0
KeepsInterface s design = (f g : File) → IsText V2019 s f → IsDesign design g → interface_of (file_shape g) ≡ interface_of (file_shape f)

-- for every top, for all inputs and every number of cycles, signals that the map joins have equal values at equal times, with equal
-- reports and stop
abbrev pub KeepsRun : Selected → List ℕ → List Row → Type 0
KeepsRun s design rows = (f g : File) → IsText V2019 s f → IsDesign design g → HaveSameRun rows (file_shape f) (file_shape g)

-- And as each name of the first language stands for itself, a run of the design prints what a run of the source prints: for every top
-- both have the same signals in their order and equal traces.
abbrev pub ShowsTheSame : Selected → List ℕ → Type 0
ShowsTheSame s design = (f g : File) → IsText V2019 s f → IsDesign design g → TreesShowSame (file_shape f) (file_shape g)

-- a design and a map that say what the source says
pub record IsFaithful (s : Selected) (design : List ℕ) (rows : List Row) : Type 0 where
  pub source : (f : File) × IsText V2019 s f
  pub in_93 : IsIn93 design
  pub laid_out : IsLaidOut design
  pub tops : HaveTops s design
  pub whole_map : HasWholeMap s design rows
  pub interface : KeepsInterface s design
  pub same_run : KeepsRun s design rows
  pub same_traces : ShowsTheSame s design
