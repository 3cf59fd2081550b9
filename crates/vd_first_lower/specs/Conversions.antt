-- What a conversion answers for the lines of a file: the first that is due of a break in the lexis, too many tokens, what
-- the grammar refuses or the nesting limit, an unknown name, and the design with its map.
use Rattle.std.specs.Prelude.{◌≡◌, ◌⊎◌, ℕ, List, [], ◌∷◌, Result, Ok, Err}
use Rattle.vd_bytes.specs.declared.answers.Refused.{Refused}
use Rattle.vd_bytes.specs.declared.answers.Limit.{Limit}
use Rattle.vd_trees.specs.declared.revision.Revision.TheVariants.{V2019}
use Rattle.vd_trees.specs.declared.rows.Row.{Row}
use Rattle.vd_first_lex.specs.declared.selected.Selected.{Selected}
use Rattle.vd_first_lex.specs.declared.tokens.Token.{Token}
use Rattle.vd_first_lower.specs.declared.conversion.Converted.{Converted}
use Rattle.vd_first_accept.specs.declared.acceptance.ConvertEnd.{ConvertEnd}
use Rattle.vd_first_accept.specs.declared.acceptance.ConvertEnd.TheVariants as ends
use Rattle.vd_first_grammar.specs.Derivations.{File}
use Rattle.vd_first_grammar.specs.Refusals.{IsRead, AllNamesKnown}
use Rattle.vd_first_grammar.specs.Shapes.{file_shape}
use Rattle.vd_first_accept.specs.Acceptance.{HasTokens, LexisRefuses, GrammarRefuses, NamesRefuse, PassesLimit}
use Rattle.vd_first_passes.specs.Lowering.{lowered}
use Rattle.vd_first_passes.specs.Flavour.{flavoured}
use Rattle.vd_first_print.specs.Writing.{design_tokens}
use Rattle.vd_first_print.specs.Layout.{layout_of}
use Rattle.vd_first_names.specs.Maps.{design_rows}

-- the bytes of the written design, and the rows of its map
abbrev pub design_text : File → List ℕ
design_text f = layout_of (design_tokens (flavoured (lowered (file_shape f))))

abbrev pub map_rows : File → List Row
map_rows f = design_rows (file_shape f)

pub data Answer : Type 0 where
  refused : (x : Refused) → Answer
  beyond : (limit : Limit) → Answer
  converted : (design : List ℕ) → (rows : List Row) → (units : ℕ) → Answer

-- nothing is refused, and this is what is written. A file has two design units, its entity's and its architecture's
pub record IsConverted (s : Selected) (design : List ℕ) (rows : List Row) (units : ℕ) : Type 0 where
  pub tokens : List Token
  pub has_tokens : HasTokens V2019 s tokens
  pub file : File
  pub read : IsRead V2019 tokens file
  pub known : AllNamesKnown file
  pub design_is : design ≡ design_text file
  pub rows_are : rows ≡ map_rows file
  pub units_are : units ≡ 2

-- a text of revision 2019 is refused or passes a limit, or it is converted
abbrev pub IsConversion : Selected → Answer → Type 0
IsConversion s (refused x) = LexisRefuses V2019 s x ⊎ (GrammarRefuses V2019 s x ⊎ NamesRefuse V2019 s x)
IsConversion s (beyond limit) = PassesLimit V2019 s limit
IsConversion s (converted design rows units) = IsConverted s design rows units

-- what a call of `convert` gave is that answer, unless memory ran out
abbrev pub EndsAs : Selected → ConvertEnd → Type 0
EndsAs s (ends.Refused x) = IsConversion s (refused x)
EndsAs s (ends.Limit limit) = IsConversion s (beyond limit)
EndsAs s ends.Memory = Unit {0}

abbrev pub Converts : Selected → Result Converted ConvertEnd → Type 0
Converts s (Ok c) = IsConversion s (converted c.design c.map.rows c.units)
Converts s (Err e) = EndsAs s e
