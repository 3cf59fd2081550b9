-- The tree of a design. Written by tools/resolved-trees from examples/worked/drivers.vhd, which is of revision 2019:
--
-- library ieee;
-- use ieee.std_logic_1164.all;
-- entity x is
-- end entity;
-- architecture a of x is
--   signal s : std_ulogic;
-- begin
--   s <= '0';
--   s <= '1';
-- end architecture;
use Rattle.std.specs.Prelude.{List, [], ◌∷◌, Some, None, codes}
use Rattle.vd_declarations.specs.declared.classes.Class.TheVariants as class
use Rattle.vd_declarations.specs.declared.declarations.Declaration.{Declaration}
use Rattle.vd_forest.specs.Forest.{Forest}
use Rattle.vd_forms.specs.declared.form.Form.TheVariants as form
use Rattle.vd_resolved.specs.declared.node.Resolved.{Resolved}
use Rattle.vd_predefined.specs.Entries.{declared}
use Rattle.vd_predefined.specs.declared.numbers.TheConstants.{STD_ULOGIC}
use Rattle.vd_meaning_facts.specs.Trees.{node, plain, absent, of, leaf}
use Rattle.vd_trees.specs.declared.revision.Revision.TheVariants.{V2019}
use Rattle.vd_resolved.specs.Trees.{ResolvedTree}
use Rattle.vd_design_facts.specs.Designs.{designed}

abbrev pub declarations : List Declaration
declarations =
    declared (class.LibraryName 2) (codes "ieee") None []
    ∷ declared class.Entity (codes "x") None []
    ∷ declared class.Architecture (codes "a") None []
    ∷ declared class.Signal (codes "s") (Some STD_ULOGIC) [] ∷ []

abbrev pub entity_x : Forest Resolved
entity_x =
    plain form.DesignUnit
    (plain form.ContextClause
    (plain form.LibraryClause (node form.Identifier (Some 463) None 0 (codes "ieee") [] ∷ [])
    ∷ plain form.UseClause
    (node form.SelectedName (Some 4) None 0 []
    (leaf form.Identifier (codes "ieee") ∷ leaf form.Identifier (codes "std_logic_1164") ∷ plain form.All [] ∷ []) ∷ []) ∷ [])
    ∷ plain form.EntityDeclaration
    (node form.Identifier (Some 464) None 0 (codes "x") [] ∷ absent ∷ absent ∷ plain form.Closing (plain form.ClosingWord [] ∷ absent ∷ []) ∷ []) ∷ [])

abbrev pub architecture_a_of_x : Forest Resolved
architecture_a_of_x =
    plain form.DesignUnit
    (plain form.ContextClause []
    ∷ plain form.ArchitectureBody
    (node form.Identifier (Some 465) None 0 (codes "a") [] ∷ node form.Identifier (Some 464) None 0 (codes "x") []
    ∷ plain form.DeclarativePart
    (plain form.SignalDeclaration
    (plain form.IdentifierList (node form.Identifier (Some 466) None 0 (codes "s") [] ∷ [])
    ∷ plain form.SubtypeIndication (node form.SelectedName (Some STD_ULOGIC) None 0 [] (leaf form.Identifier (codes "std_ulogic") ∷ []) ∷ absent ∷ [])
    ∷ absent ∷ []) ∷ [])
    ∷ plain form.StatementPart
    (plain form.ConcurrentAssignment
    (of form.Name STD_ULOGIC (node form.Identifier (Some 466) (Some STD_ULOGIC) 0 (codes "s") [] ∷ []) ∷ absent
    ∷ node form.Letter (Some 163) (Some STD_ULOGIC) 2 (codes "0") [] ∷ [])
    ∷ plain form.ConcurrentAssignment
    (of form.Name STD_ULOGIC (node form.Identifier (Some 466) (Some STD_ULOGIC) 0 (codes "s") [] ∷ []) ∷ absent
    ∷ node form.Letter (Some 164) (Some STD_ULOGIC) 3 (codes "1") [] ∷ []) ∷ [])
    ∷ plain form.Closing (plain form.ClosingWord [] ∷ absent ∷ []) ∷ []) ∷ [])

abbrev pub design : ResolvedTree
design = designed V2019 (entity_x ∷ architecture_a_of_x ∷ []) declarations
