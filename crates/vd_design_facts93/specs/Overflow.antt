-- The tree of a design. Written by tools/resolved-trees from examples/worked/overflow_93.vhd, which is of revision 1993:
--
-- entity o is
-- end entity o;
-- architecture a of o is
--   signal c : integer := 2147483645;
-- begin
--   process (c) is
--   begin
--     c <= c + 1;
--   end process;
-- end architecture a;
use Rattle.std.specs.Prelude.{List, [], ◌∷◌, Some, None, codes}
use Rattle.vd_declarations.specs.declared.classes.Class.TheVariants as class
use Rattle.vd_declarations.specs.declared.declarations.Declaration.{Declaration}
use Rattle.vd_forest.specs.Forest.{Forest}
use Rattle.vd_forms.specs.declared.form.Form.TheVariants as form
use Rattle.vd_resolved.specs.declared.node.Resolved.{Resolved}
use Rattle.vd_predefined.specs.Entries.{declared}
use Rattle.vd_predefined.specs.declared.numbers.TheConstants.{INTEGER}
use Rattle.vd_meaning_facts.specs.Trees.{node, plain, absent, of, leaf}
use Rattle.vd_trees.specs.declared.revision.Revision.TheVariants.{V1993}
use Rattle.vd_resolved.specs.Trees.{ResolvedTree}
use Rattle.vd_design_facts.specs.Designs.{designed}

abbrev pub declarations : List Declaration
declarations =
    declared class.Entity (codes "o") None []
    ∷ declared class.Architecture (codes "a") None []
    ∷ declared class.Signal (codes "c") (Some INTEGER) [] ∷ []

abbrev pub entity_o : Forest Resolved
entity_o =
    plain form.DesignUnit
    (plain form.ContextClause []
    ∷ plain form.EntityDeclaration
    (node form.Identifier (Some 387) None 0 (codes "o") [] ∷ absent ∷ absent
    ∷ plain form.Closing (plain form.ClosingWord [] ∷ leaf form.Identifier (codes "o") ∷ []) ∷ []) ∷ [])

abbrev pub architecture_a_of_o : Forest Resolved
architecture_a_of_o =
    plain form.DesignUnit
    (plain form.ContextClause []
    ∷ plain form.ArchitectureBody
    (node form.Identifier (Some 388) None 0 (codes "a") [] ∷ node form.Identifier (Some 387) None 0 (codes "o") []
    ∷ plain form.DeclarativePart
    (plain form.SignalDeclaration
    (plain form.IdentifierList (node form.Identifier (Some 389) None 0 (codes "c") [] ∷ [])
    ∷ plain form.SubtypeIndication (node form.SelectedName (Some INTEGER) None 0 [] (leaf form.Identifier (codes "integer") ∷ []) ∷ absent ∷ [])
    ∷ node form.Number None (Some INTEGER) 0 (codes "2147483645") [] ∷ []) ∷ [])
    ∷ plain form.StatementPart
    (plain form.ProcessStatement
    (plain form.SensitivityList (of form.Name INTEGER (node form.Identifier (Some 389) (Some INTEGER) 0 (codes "c") [] ∷ []) ∷ []) ∷ plain form.Is []
    ∷ plain form.DeclarativePart []
    ∷ plain form.Statements
    (plain form.SignalAssignment
    (of form.Name INTEGER (node form.Identifier (Some 389) (Some INTEGER) 0 (codes "c") [] ∷ []) ∷ absent
    ∷ node form.Add (Some 244) (Some INTEGER) 0 []
    (of form.Name INTEGER (node form.Identifier (Some 389) (Some INTEGER) 0 (codes "c") [] ∷ []) ∷ node form.Number None (Some INTEGER) 0 (codes "1") [] ∷ []) ∷ []) ∷ [])
    ∷ absent ∷ []) ∷ [])
    ∷ plain form.Closing (plain form.ClosingWord [] ∷ leaf form.Identifier (codes "a") ∷ []) ∷ []) ∷ [])

abbrev pub design : ResolvedTree
design = designed V1993 (entity_o ∷ architecture_a_of_o ∷ []) declarations
