-- The tree of a design. Written by tools/resolved-trees from examples/worked/actuals.vhd, which is of revision 2019:
--
-- library ieee;
-- use ieee.std_logic_1164.all;
-- entity k is
--   generic (n : natural := 1);
--   port (x : in std_ulogic_vector(n downto 0) := (others => '0'));
-- end entity;
-- architecture a of k is
-- begin
-- end architecture;
-- library ieee;
-- use ieee.std_logic_1164.all;
-- entity t is
-- end entity;
-- architecture a of t is
--   signal s : std_ulogic_vector(0 to 1) := "01";
-- begin
--   u1 : entity work.k port map (x => "10");
--   u2 : entity work.k generic map (n => 2) port map (x => s & '1');
--   u3 : entity work.k port map (x => s);
--   u4 : entity work.k generic map (0) port map (open);
-- end architecture;
use Rattle.std.specs.Prelude.{List, [], ◌∷◌, Some, None, codes}
use Rattle.vd_declarations.specs.declared.classes.Class.TheVariants as class
use Rattle.vd_declarations.specs.declared.declarations.Declaration.{Declaration}
use Rattle.vd_forest.specs.Forest.{Forest}
use Rattle.vd_forms.specs.declared.form.Form.TheVariants as form
use Rattle.vd_resolved.specs.declared.node.Resolved.{Resolved}
use Rattle.vd_predefined.specs.Entries.{declared}
use Rattle.vd_predefined.specs.declared.numbers.TheConstants.{INTEGER, NATURAL, STD_ULOGIC, STD_ULOGIC_VECTOR}
use Rattle.vd_meaning_facts.specs.Trees.{node, plain, absent, of, leaf}
use Rattle.vd_trees.specs.declared.revision.Revision.TheVariants.{V2019}
use Rattle.vd_resolved.specs.Trees.{ResolvedTree}
use Rattle.vd_design_facts.specs.Designs.{designed, with_generics}

abbrev pub declarations : List Declaration
declarations =
    declared (class.LibraryName 2) (codes "ieee") None []
    ∷ with_generics (465 ∷ []) (declared class.Entity (codes "k") None (466 ∷ []))
    ∷ declared class.GenericConstant (codes "n") (Some INTEGER) []
    ∷ declared class.Port (codes "x") (Some STD_ULOGIC_VECTOR) []
    ∷ declared class.Architecture (codes "a") None []
    ∷ declared (class.LibraryName 2) (codes "ieee") None []
    ∷ declared class.Entity (codes "t") None []
    ∷ declared class.Architecture (codes "a") None []
    ∷ declared class.Signal (codes "s") (Some STD_ULOGIC_VECTOR) []
    ∷ declared class.Label (codes "u1") None []
    ∷ declared class.Label (codes "u2") None []
    ∷ declared class.Label (codes "u3") None []
    ∷ declared class.Label (codes "u4") None [] ∷ []

abbrev pub entity_k : Forest Resolved
entity_k =
    plain form.DesignUnit
    (plain form.ContextClause
    (plain form.LibraryClause (node form.Identifier (Some 463) None 0 (codes "ieee") [] ∷ [])
    ∷ plain form.UseClause
    (node form.SelectedName (Some 4) None 0 []
    (leaf form.Identifier (codes "ieee") ∷ leaf form.Identifier (codes "std_logic_1164") ∷ plain form.All [] ∷ []) ∷ []) ∷ [])
    ∷ plain form.EntityDeclaration
    (node form.Identifier (Some 464) None 0 (codes "k") []
    ∷ plain form.GenericClause
    (plain form.GenericConstant
    (absent ∷ plain form.IdentifierList (node form.Identifier (Some 465) None 0 (codes "n") [] ∷ []) ∷ absent
    ∷ plain form.SubtypeIndication (node form.SelectedName (Some NATURAL) None 0 [] (leaf form.Identifier (codes "natural") ∷ []) ∷ absent ∷ [])
    ∷ node form.Number None (Some INTEGER) 0 (codes "1") [] ∷ []) ∷ [])
    ∷ plain form.PortClause
    (plain form.PortDeclaration
    (absent ∷ plain form.IdentifierList (node form.Identifier (Some 466) None 0 (codes "x") [] ∷ []) ∷ plain form.In []
    ∷ plain form.SubtypeIndication
    (node form.SelectedName (Some STD_ULOGIC_VECTOR) None 0 [] (leaf form.Identifier (codes "std_ulogic_vector") ∷ [])
    ∷ plain form.IndexConstraint
    (of form.Descending INTEGER
    (of form.Name INTEGER (node form.Identifier (Some 465) (Some INTEGER) 0 (codes "n") [] ∷ []) ∷ node form.Number None (Some INTEGER) 0 (codes "0") [] ∷ []) ∷ []) ∷ [])
    ∷ of form.Aggregate STD_ULOGIC_VECTOR (plain form.OthersAssociation (node form.Letter (Some 163) (Some STD_ULOGIC) 2 (codes "0") [] ∷ []) ∷ []) ∷ []) ∷ [])
    ∷ plain form.Closing (plain form.ClosingWord [] ∷ absent ∷ []) ∷ []) ∷ [])

abbrev pub architecture_a_of_k : Forest Resolved
architecture_a_of_k =
    plain form.DesignUnit
    (plain form.ContextClause []
    ∷ plain form.ArchitectureBody
    (node form.Identifier (Some 467) None 0 (codes "a") [] ∷ node form.Identifier (Some 464) None 0 (codes "k") [] ∷ plain form.DeclarativePart []
    ∷ plain form.StatementPart [] ∷ plain form.Closing (plain form.ClosingWord [] ∷ absent ∷ []) ∷ []) ∷ [])

abbrev pub entity_t : Forest Resolved
entity_t =
    plain form.DesignUnit
    (plain form.ContextClause
    (plain form.LibraryClause (node form.Identifier (Some 468) None 0 (codes "ieee") [] ∷ [])
    ∷ plain form.UseClause
    (node form.SelectedName (Some 4) None 0 []
    (leaf form.Identifier (codes "ieee") ∷ leaf form.Identifier (codes "std_logic_1164") ∷ plain form.All [] ∷ []) ∷ []) ∷ [])
    ∷ plain form.EntityDeclaration
    (node form.Identifier (Some 469) None 0 (codes "t") [] ∷ absent ∷ absent ∷ plain form.Closing (plain form.ClosingWord [] ∷ absent ∷ []) ∷ []) ∷ [])

abbrev pub architecture_a_of_t : Forest Resolved
architecture_a_of_t =
    plain form.DesignUnit
    (plain form.ContextClause []
    ∷ plain form.ArchitectureBody
    (node form.Identifier (Some 470) None 0 (codes "a") [] ∷ node form.Identifier (Some 469) None 0 (codes "t") []
    ∷ plain form.DeclarativePart
    (plain form.SignalDeclaration
    (plain form.IdentifierList (node form.Identifier (Some 471) None 0 (codes "s") [] ∷ [])
    ∷ plain form.SubtypeIndication
    (node form.SelectedName (Some STD_ULOGIC_VECTOR) None 0 [] (leaf form.Identifier (codes "std_ulogic_vector") ∷ [])
    ∷ plain form.IndexConstraint
    (of form.Ascending INTEGER (node form.Number None (Some INTEGER) 0 (codes "0") [] ∷ node form.Number None (Some INTEGER) 0 (codes "1") [] ∷ []) ∷ []) ∷ [])
    ∷ node form.Quoted None (Some STD_ULOGIC_VECTOR) 0 (codes "01") [] ∷ []) ∷ [])
    ∷ plain form.StatementPart
    (plain form.LabelledConcurrent
    (node form.Identifier (Some 472) None 0 (codes "u1") []
    ∷ plain form.EntityInstantiation
    (node form.SelectedName (Some 464) None 0 [] (leaf form.Identifier (codes "work") ∷ leaf form.Identifier (codes "k") ∷ []) ∷ absent ∷ absent
    ∷ plain form.PortMap
    (plain form.Association
    (plain form.AssociationChoices (node form.Name (Some 466) None 0 [] (leaf form.Identifier (codes "x") ∷ []) ∷ [])
    ∷ node form.Quoted None (Some STD_ULOGIC_VECTOR) 0 (codes "10") [] ∷ []) ∷ []) ∷ []) ∷ [])
    ∷ plain form.LabelledConcurrent
    (node form.Identifier (Some 473) None 0 (codes "u2") []
    ∷ plain form.EntityInstantiation
    (node form.SelectedName (Some 464) None 0 [] (leaf form.Identifier (codes "work") ∷ leaf form.Identifier (codes "k") ∷ []) ∷ absent
    ∷ plain form.GenericMap
    (plain form.Association
    (plain form.AssociationChoices (node form.Name (Some 465) None 0 [] (leaf form.Identifier (codes "n") ∷ []) ∷ [])
    ∷ node form.Number None (Some INTEGER) 0 (codes "2") [] ∷ []) ∷ [])
    ∷ plain form.PortMap
    (plain form.Association
    (plain form.AssociationChoices (node form.Name (Some 466) None 0 [] (leaf form.Identifier (codes "x") ∷ []) ∷ [])
    ∷ node form.Concatenate (Some 375) (Some STD_ULOGIC_VECTOR) 0 []
    (of form.Name STD_ULOGIC_VECTOR (node form.Identifier (Some 471) (Some STD_ULOGIC_VECTOR) 0 (codes "s") [] ∷ [])
    ∷ node form.Letter (Some 164) (Some STD_ULOGIC) 3 (codes "1") [] ∷ []) ∷ []) ∷ []) ∷ []) ∷ [])
    ∷ plain form.LabelledConcurrent
    (node form.Identifier (Some 474) None 0 (codes "u3") []
    ∷ plain form.EntityInstantiation
    (node form.SelectedName (Some 464) None 0 [] (leaf form.Identifier (codes "work") ∷ leaf form.Identifier (codes "k") ∷ []) ∷ absent ∷ absent
    ∷ plain form.PortMap
    (plain form.Association
    (plain form.AssociationChoices (node form.Name (Some 466) None 0 [] (leaf form.Identifier (codes "x") ∷ []) ∷ [])
    ∷ of form.Name STD_ULOGIC_VECTOR (node form.Identifier (Some 471) (Some STD_ULOGIC_VECTOR) 0 (codes "s") [] ∷ []) ∷ []) ∷ []) ∷ []) ∷ [])
    ∷ plain form.LabelledConcurrent
    (node form.Identifier (Some 475) None 0 (codes "u4") []
    ∷ plain form.EntityInstantiation
    (node form.SelectedName (Some 464) None 0 [] (leaf form.Identifier (codes "work") ∷ leaf form.Identifier (codes "k") ∷ []) ∷ absent
    ∷ plain form.GenericMap (node form.Number None (Some INTEGER) 0 (codes "0") [] ∷ []) ∷ plain form.PortMap (plain form.Open [] ∷ []) ∷ []) ∷ []) ∷ [])
    ∷ plain form.Closing (plain form.ClosingWord [] ∷ absent ∷ []) ∷ []) ∷ [])

abbrev pub design : ResolvedTree
design = designed V2019 (entity_k ∷ architecture_a_of_k ∷ entity_t ∷ architecture_a_of_t ∷ []) declarations
