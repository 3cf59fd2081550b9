-- What it is for written bytes to be read as the tokens that were written.
use Rattle.std.specs.Prelude.{◌≡◌, ℕ, List, [], ◌∷◌, ◌++◌, map, Some}
use Rattle.std.specs.List.{AllByRecursion}
use Rattle.vd_forest.specs.Forest.{no_place}
use Rattle.vd_trees.specs.declared.revision.Revision.{Revision}
use Rattle.vd_first_lex.specs.declared.selected.Selected.{Selected}
use Rattle.vd_first_lex.specs.declared.tokens.Kind.TheVariants.{End}
use Rattle.vd_first_lex.specs.declared.tokens.Token.{Token}
use Rattle.vd_first_lex.specs.Lexis.{kind_of, text_if_name, IsTokenList}
use Rattle.vd_first_lex.specs.Lexings.{plain_of, IsPossible}
use Rattle.vd_first_print.specs.Layout.{layout_of}

-- a token that a token list of this revision can have in front of its end, up to the token's place: some text is one of
-- its kind and has its text
pub record IsGiven (r : Revision) (t : Token) : Type 0 where
  pub spelled : List ℕ
  pub is_token : kind_of r spelled ≡ Some t.kind
  pub text : t.text ≡ text_if_name t.kind spelled

-- ---- tokens without their places

abbrev pub placeless : Token → Token
placeless t = record { kind = t.kind; text = t.text; place = no_place }

abbrev pub all_placeless : List Token → List Token
all_placeless ts = map placeless ts

abbrev pub placeless_end : Token
placeless_end = record { kind = End; text = []; place = no_place }

-- ---- laws

-- the bytes of a file are read as these tokens and the end, up to places
pub record ReadsBack (r : Revision) (file : ℕ) (bytes : List ℕ) (ts : List Token) : Type 0 where
  pub tokens : List Token
  pub is_list : IsTokenList r (plain_of file bytes) tokens
  pub same : all_placeless tokens ≡ all_placeless ts ++ placeless_end ∷ []

-- whatever tokens a token list can have, their layout is read as these tokens
abbrev pub LayoutReadsBack : Type 0
LayoutReadsBack = (r : Revision) (file : ℕ) (ts : List Token) → AllByRecursion (IsGiven r) ts → ReadsBack r file (layout_of ts) ts

-- each token of a token list keeps to its kind
abbrev pub TokenListsArePossible : Type 0
TokenListsArePossible = (r : Revision) (s : Selected) (ts : List Token) → IsTokenList r s ts → AllByRecursion (IsPossible r) ts
