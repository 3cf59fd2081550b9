-- The tree of a design. Written by tools/resolved-trees from examples/worked/converted.vhd, which is of revision 2019:
--
-- library ieee;
-- use ieee.std_logic_1164.all;
-- entity c is
--   port (q : out std_ulogic_vector(1 downto 0));
-- end entity;
-- architecture a of c is
-- begin
--   q <= "10";
-- end architecture;
-- library ieee;
-- use ieee.std_logic_1164.all;
-- entity p is
-- end entity;
-- architecture a of p is
--   signal s : std_logic_vector(1 downto 0);
-- begin
--   u : entity work.c port map (q => s);
--   s <= "00";
-- end architecture;
use Rattle.std.specs.Prelude.{List, [], ◌∷◌, Some, None, codes}
use Rattle.vd_declarations.specs.declared.classes.Class.TheVariants as class
use Rattle.vd_declarations.specs.declared.declarations.Declaration.{Declaration}
use Rattle.vd_forest.specs.Forest.{Forest}
use Rattle.vd_forms.specs.declared.form.Form.TheVariants as form
use Rattle.vd_resolved.specs.declared.node.Resolved.{Resolved}
use Rattle.vd_predefined.specs.Entries.{declared}
use Rattle.vd_predefined.specs.declared.numbers.TheConstants.{INTEGER, STD_ULOGIC_VECTOR, STD_LOGIC_VECTOR}
use Rattle.vd_meaning_facts.specs.Trees.{node, plain, absent, of, leaf}
use Rattle.vd_trees.specs.declared.revision.Revision.TheVariants.{V2019}
use Rattle.vd_resolved.specs.Trees.{ResolvedTree}
use Rattle.vd_design_facts.specs.Designs.{designed}

abbrev pub declarations : List Declaration
declarations =
    declared (class.LibraryName 2) (codes "ieee") None []
    ∷ declared class.Entity (codes "c") None (465 ∷ [])
    ∷ declared class.Port (codes "q") (Some STD_ULOGIC_VECTOR) []
    ∷ declared class.Architecture (codes "a") None []
    ∷ declared (class.LibraryName 2) (codes "ieee") None []
    ∷ declared class.Entity (codes "p") None []
    ∷ declared class.Architecture (codes "a") None []
    ∷ declared class.Signal (codes "s") (Some STD_ULOGIC_VECTOR) []
    ∷ declared class.Label (codes "u") None [] ∷ []

abbrev pub entity_c : Forest Resolved
entity_c =
    plain form.DesignUnit
    (plain form.ContextClause
    (plain form.LibraryClause (node form.Identifier (Some 463) None 0 (codes "ieee") [] ∷ [])
    ∷ plain form.UseClause
    (node form.SelectedName (Some 4) None 0 []
    (leaf form.Identifier (codes "ieee") ∷ leaf form.Identifier (codes "std_logic_1164") ∷ plain form.All [] ∷ []) ∷ []) ∷ [])
    ∷ plain form.EntityDeclaration
    (node form.Identifier (Some 464) None 0 (codes "c") [] ∷ absent
    ∷ plain form.PortClause
    (plain form.PortDeclaration
    (absent ∷ plain form.IdentifierList (node form.Identifier (Some 465) None 0 (codes "q") [] ∷ []) ∷ plain form.Out []
    ∷ plain form.SubtypeIndication
    (node form.SelectedName (Some STD_ULOGIC_VECTOR) None 0 [] (leaf form.Identifier (codes "std_ulogic_vector") ∷ [])
    ∷ plain form.IndexConstraint
    (of form.Descending INTEGER (node form.Number None (Some INTEGER) 0 (codes "1") [] ∷ node form.Number None (Some INTEGER) 0 (codes "0") [] ∷ []) ∷ []) ∷ [])
    ∷ absent ∷ []) ∷ [])
    ∷ plain form.Closing (plain form.ClosingWord [] ∷ absent ∷ []) ∷ []) ∷ [])

abbrev pub architecture_a_of_c : Forest Resolved
architecture_a_of_c =
    plain form.DesignUnit
    (plain form.ContextClause []
    ∷ plain form.ArchitectureBody
    (node form.Identifier (Some 466) None 0 (codes "a") [] ∷ node form.Identifier (Some 464) None 0 (codes "c") [] ∷ plain form.DeclarativePart []
    ∷ plain form.StatementPart
    (plain form.ConcurrentAssignment
    (of form.Name STD_ULOGIC_VECTOR (node form.Identifier (Some 465) (Some STD_ULOGIC_VECTOR) 0 (codes "q") [] ∷ []) ∷ absent
    ∷ node form.Quoted None (Some STD_ULOGIC_VECTOR) 0 (codes "10") [] ∷ []) ∷ [])
    ∷ plain form.Closing (plain form.ClosingWord [] ∷ absent ∷ []) ∷ []) ∷ [])

abbrev pub entity_p : Forest Resolved
entity_p =
    plain form.DesignUnit
    (plain form.ContextClause
    (plain form.LibraryClause (node form.Identifier (Some 467) None 0 (codes "ieee") [] ∷ [])
    ∷ plain form.UseClause
    (node form.SelectedName (Some 4) None 0 []
    (leaf form.Identifier (codes "ieee") ∷ leaf form.Identifier (codes "std_logic_1164") ∷ plain form.All [] ∷ []) ∷ []) ∷ [])
    ∷ plain form.EntityDeclaration
    (node form.Identifier (Some 468) None 0 (codes "p") [] ∷ absent ∷ absent ∷ plain form.Closing (plain form.ClosingWord [] ∷ absent ∷ []) ∷ []) ∷ [])

abbrev pub architecture_a_of_p : Forest Resolved
architecture_a_of_p =
    plain form.DesignUnit
    (plain form.ContextClause []
    ∷ plain form.ArchitectureBody
    (node form.Identifier (Some 469) None 0 (codes "a") [] ∷ node form.Identifier (Some 468) None 0 (codes "p") []
    ∷ plain form.DeclarativePart
    (plain form.SignalDeclaration
    (plain form.IdentifierList (node form.Identifier (Some 470) None 0 (codes "s") [] ∷ [])
    ∷ plain form.SubtypeIndication
    (node form.SelectedName (Some STD_LOGIC_VECTOR) None 0 [] (leaf form.Identifier (codes "std_logic_vector") ∷ [])
    ∷ plain form.IndexConstraint
    (of form.Descending INTEGER (node form.Number None (Some INTEGER) 0 (codes "1") [] ∷ node form.Number None (Some INTEGER) 0 (codes "0") [] ∷ []) ∷ []) ∷ [])
    ∷ absent ∷ []) ∷ [])
    ∷ plain form.StatementPart
    (plain form.LabelledConcurrent
    (node form.Identifier (Some 471) None 0 (codes "u") []
    ∷ plain form.EntityInstantiation
    (node form.SelectedName (Some 464) None 0 [] (leaf form.Identifier (codes "work") ∷ leaf form.Identifier (codes "c") ∷ []) ∷ absent ∷ absent
    ∷ plain form.PortMap
    (plain form.Association
    (plain form.AssociationChoices (node form.Name (Some 465) None 0 [] (leaf form.Identifier (codes "q") ∷ []) ∷ [])
    ∷ of form.Name STD_ULOGIC_VECTOR (node form.Identifier (Some 470) (Some STD_ULOGIC_VECTOR) 0 (codes "s") [] ∷ []) ∷ []) ∷ []) ∷ []) ∷ [])
    ∷ plain form.ConcurrentAssignment
    (of form.Name STD_ULOGIC_VECTOR (node form.Identifier (Some 470) (Some STD_ULOGIC_VECTOR) 0 (codes "s") [] ∷ []) ∷ absent
    ∷ node form.Quoted None (Some STD_ULOGIC_VECTOR) 0 (codes "00") [] ∷ []) ∷ [])
    ∷ plain form.Closing (plain form.ClosingWord [] ∷ absent ∷ []) ∷ []) ∷ [])

abbrev pub design : ResolvedTree
design = designed V2019 (entity_c ∷ architecture_a_of_c ∷ entity_p ∷ architecture_a_of_p ∷ []) declarations
