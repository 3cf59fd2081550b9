-- The tokens that are written for a 2019 file are a text of the first language for 1993: it has a derivation in which
-- nothing is refused, and whose tree is the tree that was written.
-- (IEEE 1076, design file, entity declaration, architecture body, process statement, expression.)
use Rattle.std.specs.Prelude.{◌≡◌, List, [], ◌∷◌, ◌++◌}
use Rattle.std.specs.List.{AllByRecursion}
use Rattle.vd_forest.specs.Forest.{Forest, SameButPlaces}
use Rattle.vd_first_trees.specs.declared.form.Form.{Form}
use Rattle.vd_trees.specs.declared.revision.Revision.TheVariants.{V2019, V1993}
use Rattle.vd_first_lex.specs.declared.tokens.Token.{Token}
use Rattle.vd_first_lex.specs.Lexings.{IsPossible}
use Rattle.vd_first_grammar.specs.Derivations.{File, IsFile, file_tokens}
use Rattle.vd_first_grammar.specs.Conditions.{MeetsConditions}
use Rattle.vd_first_grammar.specs.Refusals.{AllNamesKnown}
use Rattle.vd_first_grammar.specs.Shapes.{file_shape}
use Rattle.vd_first_passes.specs.Lowering.{lowered}
use Rattle.vd_first_passes.specs.Flavour.{flavoured}
use Rattle.vd_first_print.specs.Writing.{design_tokens}
use Rattle.vd_first_print.specs.ReadingBack.{IsGiven, all_placeless, placeless_end}

-- a 1993 text with these tokens: a derivation in which nothing is refused
pub record IsText93 (ts : List Token) (f : File) : Type 0 where
  pub is_file : IsFile V1993 f
  pub tokens : file_tokens f ≡ ts
  pub conditions : MeetsConditions f
  pub known : AllNamesKnown f

-- the tree that is written for a file
abbrev pub written_tree : File → Forest Form
written_tree f = flavoured (lowered (file_shape f))

-- and its tokens with the end behind them, without places
abbrev pub written_tokens : File → List Token
written_tokens f = all_placeless (design_tokens (written_tree f)) ++ placeless_end ∷ []

-- these tokens are a 1993 text, and its tree is the one that is written for the file, up to places
pub record IsWrittenAs (f : File) (ts : List Token) : Type 0 where
  pub file : File
  pub is_text : IsText93 ts file
  pub tree : SameButPlaces (file_shape file) (written_tree f)

-- the written tokens of a 2019 file that is not refused are a 1993 text, whatever places they have
abbrev pub WrittenIs93 : Type 0
WrittenIs93 =
    (ts : List Token) (f : File) → AllByRecursion (IsPossible V2019) ts → IsFile V2019 f → file_tokens f ≡ ts → MeetsConditions f → AllNamesKnown f
    → (us : List Token) → all_placeless us ≡ written_tokens f → IsWrittenAs f us

-- and a token list of 1993 can have each of them in front of its end
abbrev pub WrittenAreGiven : Type 0
WrittenAreGiven =
    (ts : List Token) (f : File) → AllByRecursion (IsPossible V2019) ts → IsFile V2019 f → file_tokens f ≡ ts → MeetsConditions f → AllNamesKnown f
    → AllByRecursion (IsGiven V1993) (design_tokens (written_tree f))
