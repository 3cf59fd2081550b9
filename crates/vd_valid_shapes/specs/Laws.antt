-- Shapes that are designs.
use Rattle.std.specs.Prelude.{ℕ, ◌≡◌, List, IsTrue}
use Rattle.std.specs.List.{AllByRecursion}
use Rattle.vd_trees.specs.declared.revision.Revision.{Revision}
use Rattle.vd_tokens.specs.Lexemes.{Lexeme}
use Rattle.vd_tokens.specs.Spellings.{IsPossible}
use Rattle.vd_gram.specs.declared.tables.Table.{Table}
use Rattle.vd_gram.specs.Derivations.{Trees, IsDerivation, IsParse, yield}
use Rattle.vd_forest.specs.Forest.{Forest}
use Rattle.vd_forms.specs.declared.form.Form.{Form}
use Rattle.vd_forms.specs.Validity.{IsDesign}
use Rattle.vd_shapes.specs.declared.actions.Action.{Action}
use Rattle.vd_shapes.specs.Shapes.{shape}
use Rattle.vd_shapes.specs.Reading.{symbols_in}
use Rattle.vd_valid_shapes.specs.Effects.{Effect, makes_valid_trees}

-- the forest is the shape of the derivation that the symbols of some tokens have
pub record IsShapeOf (t : Table) (actions : List Action) (tokens : List Lexeme) (deep : ℕ) (f : Forest Form) : Type 0 where
  pub tree : Trees
  pub parse : IsParse t (symbols_in tokens) deep tree
  pub is : f ≡ shape actions tokens tree

-- each shape of a derivation is a design of the revision, where each token is one that a text of it can have
abbrev pub ShapesAreDesigns : Revision → Table → List Action → Type 0
ShapesAreDesigns r t actions =
    (tokens : List Lexeme) (tree : Trees) → AllByRecursion (IsPossible r) tokens → IsDerivation t tree → yield tree ≡ symbols_in tokens
    → IsDesign r (shape actions tokens tree)

-- so it is with every table of which it is shown that its productions make valid trees
abbrev pub ShapesOfShownTablesAreDesigns : Type 0
ShapesOfShownTablesAreDesigns =
    (r : Revision) (t : Table) (actions : List Action) (effects : List (ℕ × Effect)) → IsTrue (makes_valid_trees r t actions effects)
    → ShapesAreDesigns r t actions
