-- What reading the tokens of a design of revision 1993 answers.
use Rattle.std.specs.Prelude.{◌<◌, ◌≤◌, List}
use Rattle.vd_bytes.specs.declared.answers.Refused.{Refused}
use Rattle.vd_trees.specs.declared.revision.Revision.TheVariants.{V1993}
use Rattle.vd_tokens.specs.Lexemes.{Lexeme}
use Rattle.vd_gram.specs.Derivations.{Trees, IsTooDeep, depth}
use Rattle.vd_forest.specs.Forest.{Forest, SameButPlaces}
use Rattle.vd_forms.specs.declared.form.Form.{Form}
use Rattle.vd_forms.specs.Validity.{IsDesign}
use Rattle.vd_shapes.specs.Reading.{symbols_in, IsRefusedAt}
use Rattle.vd_valid_shapes.specs.Laws.{IsShapeOf}
use Rattle.vd_grammar93.specs.Grammar.{grammar, actions}
use Rattle.vd_derivations.specs.Laws.{AreTokensOf, IsDerivationOf}

-- Tokens of a design are never refused. What is read of them is the design, up to places. They are read where expressions and statements
-- stand at most 2,000 deep in one another in their derivation, and else they are too deep
pub record IsReadBack (units : Forest Form) (tokens : List Lexeme) : Type 0 where
  pub read : (f : Forest Form) → IsShapeOf grammar actions tokens 2000 f → SameButPlaces f units
  pub never_refused : (refused : Refused) → IsRefusedAt grammar tokens 2000 refused → ⊥
  pub read_where_shallow : (tree : Trees) (f : Forest Form) → IsDerivationOf grammar units tree → IsShapeOf grammar actions tokens 2000 f → depth grammar tree ≤ 2000
  pub deep_where_deeper : (tree : Trees) → IsDerivationOf grammar units tree → IsTooDeep grammar (symbols_in tokens) 2000 → 2000 < depth grammar tree

abbrev pub DesignsAreReadBack : Type 0
DesignsAreReadBack = (units : Forest Form) (tokens : List Lexeme) → IsDesign V1993 units → AreTokensOf tokens units → IsReadBack units tokens
