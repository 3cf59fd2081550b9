-- The tree of a design. Written by tools/resolved-trees from examples/worked/alternatives_93.vhd, which is of revision 1993:
--
-- entity v is
--   generic (n : integer := 0);
-- end entity v;
-- architecture a of v is
--   signal s : bit;
-- begin
--   g : if n = 0 generate
--   begin
--     s <= '1';
--   end generate;
--   g_2 : if (not (n = 0)) and ((10 / n) > 2) generate
--   begin
--     s <= '0';
--   end generate;
-- end architecture a;
use Rattle.std.specs.Prelude.{List, [], ◌∷◌, Some, None, codes}
use Rattle.vd_declarations.specs.declared.classes.Class.TheVariants as class
use Rattle.vd_declarations.specs.declared.declarations.Declaration.{Declaration}
use Rattle.vd_forest.specs.Forest.{Forest}
use Rattle.vd_forms.specs.declared.form.Form.TheVariants as form
use Rattle.vd_resolved.specs.declared.node.Resolved.{Resolved}
use Rattle.vd_predefined.specs.Entries.{declared}
use Rattle.vd_predefined.specs.declared.numbers.TheConstants.{BOOLEAN, BIT, INTEGER}
use Rattle.vd_meaning_facts.specs.Trees.{node, plain, absent, of, leaf}
use Rattle.vd_trees.specs.declared.revision.Revision.TheVariants.{V1993}
use Rattle.vd_resolved.specs.Trees.{ResolvedTree}
use Rattle.vd_design_facts.specs.Designs.{designed, with_generics}

abbrev pub declarations : List Declaration
declarations =
    with_generics (388 ∷ []) (declared class.Entity (codes "v") None [])
    ∷ declared class.GenericConstant (codes "n") (Some INTEGER) []
    ∷ declared class.Architecture (codes "a") None []
    ∷ declared class.Signal (codes "s") (Some BIT) []
    ∷ declared class.Label (codes "g") None []
    ∷ declared class.Label (codes "g_2") None [] ∷ []

abbrev pub entity_v : Forest Resolved
entity_v =
    plain form.DesignUnit
    (plain form.ContextClause []
    ∷ plain form.EntityDeclaration
    (node form.Identifier (Some 387) None 0 (codes "v") []
    ∷ plain form.GenericClause
    (plain form.GenericConstant
    (absent ∷ plain form.IdentifierList (node form.Identifier (Some 388) None 0 (codes "n") [] ∷ []) ∷ absent
    ∷ plain form.SubtypeIndication (node form.SelectedName (Some INTEGER) None 0 [] (leaf form.Identifier (codes "integer") ∷ []) ∷ absent ∷ [])
    ∷ node form.Number None (Some INTEGER) 0 (codes "0") [] ∷ []) ∷ [])
    ∷ absent ∷ plain form.Closing (plain form.ClosingWord [] ∷ leaf form.Identifier (codes "v") ∷ []) ∷ []) ∷ [])

abbrev pub architecture_a_of_v : Forest Resolved
architecture_a_of_v =
    plain form.DesignUnit
    (plain form.ContextClause []
    ∷ plain form.ArchitectureBody
    (node form.Identifier (Some 389) None 0 (codes "a") [] ∷ node form.Identifier (Some 387) None 0 (codes "v") []
    ∷ plain form.DeclarativePart
    (plain form.SignalDeclaration
    (plain form.IdentifierList (node form.Identifier (Some 390) None 0 (codes "s") [] ∷ [])
    ∷ plain form.SubtypeIndication (node form.SelectedName (Some BIT) None 0 [] (leaf form.Identifier (codes "bit") ∷ []) ∷ absent ∷ []) ∷ absent ∷ []) ∷ [])
    ∷ plain form.StatementPart
    (plain form.LabelledConcurrent
    (node form.Identifier (Some 391) None 0 (codes "g") []
    ∷ plain form.IfGenerate
    (node form.Equal (Some 235) (Some BOOLEAN) 0 []
    (of form.Name INTEGER (node form.Identifier (Some 388) (Some INTEGER) 0 (codes "n") [] ∷ []) ∷ node form.Number None (Some INTEGER) 0 (codes "0") [] ∷ [])
    ∷ plain form.GenerateBody
    (plain form.DeclarativePart []
    ∷ plain form.ConcurrentAssignment
    (of form.Name BIT (node form.Identifier (Some 390) (Some BIT) 0 (codes "s") [] ∷ []) ∷ absent ∷ node form.Letter (Some 10) (Some BIT) 1 (codes "1") [] ∷ []) ∷ [])
    ∷ plain form.ElsifGenerates [] ∷ absent ∷ absent ∷ []) ∷ [])
    ∷ plain form.LabelledConcurrent
    (node form.Identifier (Some 392) None 0 (codes "g_2") []
    ∷ plain form.IfGenerate
    (node form.And (Some 187) (Some BOOLEAN) 0 []
    (node form.Not (Some 193) (Some BOOLEAN) 0 []
    (node form.Equal (Some 235) (Some BOOLEAN) 0 []
    (of form.Name INTEGER (node form.Identifier (Some 388) (Some INTEGER) 0 (codes "n") [] ∷ []) ∷ node form.Number None (Some INTEGER) 0 (codes "0") [] ∷ []) ∷ [])
    ∷ node form.Greater (Some 239) (Some BOOLEAN) 0 []
    (node form.Divide (Some 247) (Some INTEGER) 0 []
    (node form.Number None (Some INTEGER) 0 (codes "10") [] ∷ of form.Name INTEGER (node form.Identifier (Some 388) (Some INTEGER) 0 (codes "n") [] ∷ []) ∷ [])
    ∷ node form.Number None (Some INTEGER) 0 (codes "2") [] ∷ []) ∷ [])
    ∷ plain form.GenerateBody
    (plain form.DeclarativePart []
    ∷ plain form.ConcurrentAssignment
    (of form.Name BIT (node form.Identifier (Some 390) (Some BIT) 0 (codes "s") [] ∷ []) ∷ absent ∷ node form.Letter (Some 9) (Some BIT) 0 (codes "0") [] ∷ []) ∷ [])
    ∷ plain form.ElsifGenerates [] ∷ absent ∷ absent ∷ []) ∷ []) ∷ [])
    ∷ plain form.Closing (plain form.ClosingWord [] ∷ leaf form.Identifier (codes "a") ∷ []) ∷ []) ∷ [])

abbrev pub design : ResolvedTree
design = designed V1993 (entity_v ∷ architecture_a_of_v ∷ []) declarations
