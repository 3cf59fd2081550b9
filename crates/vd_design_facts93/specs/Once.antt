-- The tree of a design. Written by tools/resolved-trees from examples/worked/once_93.vhd, which is of revision 1993:
--
-- entity p is
-- end entity p;
-- architecture a of p is
-- begin
--   process is
--   begin
--     report "once";
--     wait;
--   end process;
-- end architecture a;
use Rattle.std.specs.Prelude.{List, [], ◌∷◌, Some, None, codes}
use Rattle.vd_declarations.specs.declared.classes.Class.TheVariants as class
use Rattle.vd_declarations.specs.declared.declarations.Declaration.{Declaration}
use Rattle.vd_forest.specs.Forest.{Forest}
use Rattle.vd_forms.specs.declared.form.Form.TheVariants as form
use Rattle.vd_resolved.specs.declared.node.Resolved.{Resolved}
use Rattle.vd_predefined.specs.Entries.{declared}
use Rattle.vd_predefined.specs.declared.numbers.TheConstants.{STRING}
use Rattle.vd_meaning_facts.specs.Trees.{node, plain, absent, leaf}
use Rattle.vd_trees.specs.declared.revision.Revision.TheVariants.{V1993}
use Rattle.vd_resolved.specs.Trees.{ResolvedTree}
use Rattle.vd_design_facts.specs.Designs.{designed}

abbrev pub declarations : List Declaration
declarations =
    declared class.Entity (codes "p") None []
    ∷ declared class.Architecture (codes "a") None [] ∷ []

abbrev pub entity_p : Forest Resolved
entity_p =
    plain form.DesignUnit
    (plain form.ContextClause []
    ∷ plain form.EntityDeclaration
    (node form.Identifier (Some 387) None 0 (codes "p") [] ∷ absent ∷ absent
    ∷ plain form.Closing (plain form.ClosingWord [] ∷ leaf form.Identifier (codes "p") ∷ []) ∷ []) ∷ [])

abbrev pub architecture_a_of_p : Forest Resolved
architecture_a_of_p =
    plain form.DesignUnit
    (plain form.ContextClause []
    ∷ plain form.ArchitectureBody
    (node form.Identifier (Some 388) None 0 (codes "a") [] ∷ node form.Identifier (Some 387) None 0 (codes "p") [] ∷ plain form.DeclarativePart []
    ∷ plain form.StatementPart
    (plain form.ProcessStatement
    (absent ∷ plain form.Is [] ∷ plain form.DeclarativePart []
    ∷ plain form.Statements
    (plain form.ReportStatement (node form.Quoted None (Some STRING) 0 (codes "once") [] ∷ absent ∷ [])
    ∷ plain form.WaitStatement (absent ∷ absent ∷ absent ∷ []) ∷ [])
    ∷ absent ∷ []) ∷ [])
    ∷ plain form.Closing (plain form.ClosingWord [] ∷ leaf form.Identifier (codes "a") ∷ []) ∷ []) ∷ [])

abbrev pub design : ResolvedTree
design = designed V1993 (entity_p ∷ architecture_a_of_p ∷ []) declarations
