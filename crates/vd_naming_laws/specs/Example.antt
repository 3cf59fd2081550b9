-- A design in which an operator is implied over a condition, so that the names phase doesn't keep its syntax node by node:
--
-- entity e is
-- end entity;
-- architecture a of e is
-- begin
--   process
--   begin
--     wait until '1';
--   end process;
-- end architecture;
--
-- Each node stands at no place.
use Rattle.std.specs.Prelude.{◌≡◌, ℕ, List, [], ◌∷◌, codes}
use Rattle.vd_forest.specs.Forest.{Forest, nothing, more, with_next, no_place}
use Rattle.vd_forms.specs.declared.form.Form.{Form}
use Rattle.vd_forms.specs.declared.form.Form.TheVariants as form
use Rattle.vd_forms.specs.Validity.{IsDesign}
use Rattle.vd_resolved.specs.Trees.{syntax_of}
use Rattle.vd_trees.specs.declared.revision.Revision.TheVariants.{V2019}
use Rattle.vd_naming.specs.Naming.{names_of}

abbrev pub side_by_side : List (Forest Form) → Forest Form
side_by_side [] = nothing
side_by_side (tree ∷ trees) = with_next tree (side_by_side trees)

abbrev pub node : Form → List (Forest Form) → Forest Form
node f parts = more f [] no_place (side_by_side parts) nothing

abbrev pub leaf : Form → List ℕ → Forest Form
leaf f text = more f text no_place nothing nothing

abbrev pub word : List ℕ → Forest Form
word name = leaf form.Identifier name

abbrev pub absent : Forest Form
absent = leaf form.Absent []

abbrev pub closing : Forest Form
closing = node form.Closing (absent ∷ absent ∷ [])

abbrev pub bit : Forest Form
bit = leaf form.Letter (codes "1")

-- the design, with this behind `until`
abbrev pub waiting_until : Forest Form → Forest Form
waiting_until condition = side_by_side (
    node form.DesignUnit (node form.ContextClause [] ∷ node form.EntityDeclaration (word (codes "e") ∷ absent ∷ absent ∷ closing ∷ []) ∷ [])
    ∷ node form.DesignUnit (
    node form.ContextClause []
    ∷ node form.ArchitectureBody (
    word (codes "a") ∷ word (codes "e") ∷ node form.DeclarativePart []
    ∷ node form.StatementPart (
    node form.ProcessStatement (
    absent ∷ absent ∷ node form.DeclarativePart [] ∷ node form.Statements (node form.WaitStatement (absent ∷ condition ∷ absent ∷ []) ∷ []) ∷ absent ∷ []
    )
    ∷ []
    )
    ∷ closing ∷ []
    )
    ∷ []
    )
    ∷ [])

-- it is valid, and its names come to a tree that has one node more
pub record OperatorIsImplied : Type 0 where
  pub valid : IsDesign V2019 (waiting_until bit)
  pub implied : syntax_of (names_of V2019 (waiting_until bit)).tree ≡ waiting_until (node form.Condition (bit ∷ []))
