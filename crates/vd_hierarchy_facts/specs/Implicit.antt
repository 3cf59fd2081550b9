-- The tree of a design. Written by tools/resolved-trees from examples/worked/implicit.vhd, which is of revision 2019:
--
-- library ieee;
-- use ieee.std_logic_1164.all;
-- entity k is
--   port (x : in std_ulogic);
-- end entity;
-- architecture s of k is
-- begin
-- end architecture;
-- library ieee;
-- use ieee.std_logic_1164.all;
-- entity t is
-- end entity;
-- architecture s of t is
--   signal a : std_ulogic := '1';
--   signal b : std_ulogic := '0';
-- begin
--   u : entity work.k port map (x => a and not b);
-- end architecture;
use Rattle.std.specs.Prelude.{List, [], ◌∷◌, Some, None, codes}
use Rattle.vd_declarations.specs.declared.classes.Class.TheVariants as class
use Rattle.vd_declarations.specs.declared.declarations.Declaration.{Declaration}
use Rattle.vd_forest.specs.Forest.{Forest}
use Rattle.vd_forms.specs.declared.form.Form.TheVariants as form
use Rattle.vd_resolved.specs.declared.node.Resolved.{Resolved}
use Rattle.vd_predefined.specs.Entries.{declared}
use Rattle.vd_predefined.specs.declared.numbers.TheConstants.{STD_ULOGIC}
use Rattle.vd_meaning_facts.specs.Trees.{node, plain, absent, of, leaf}
use Rattle.vd_trees.specs.declared.revision.Revision.TheVariants.{V2019}
use Rattle.vd_resolved.specs.Trees.{ResolvedTree}
use Rattle.vd_design_facts.specs.Designs.{designed}

abbrev pub declarations : List Declaration
declarations =
    declared (class.LibraryName 2) (codes "ieee") None []
    ∷ declared class.Entity (codes "k") None (465 ∷ [])
    ∷ declared class.Port (codes "x") (Some STD_ULOGIC) []
    ∷ declared class.Architecture (codes "s") None []
    ∷ declared (class.LibraryName 2) (codes "ieee") None []
    ∷ declared class.Entity (codes "t") None []
    ∷ declared class.Architecture (codes "s") None []
    ∷ declared class.Signal (codes "a") (Some STD_ULOGIC) []
    ∷ declared class.Signal (codes "b") (Some STD_ULOGIC) []
    ∷ declared class.Label (codes "u") None [] ∷ []

abbrev pub entity_k : Forest Resolved
entity_k =
    plain form.DesignUnit
    (plain form.ContextClause
    (plain form.LibraryClause (node form.Identifier (Some 463) None 0 (codes "ieee") [] ∷ [])
    ∷ plain form.UseClause
    (node form.SelectedName (Some 4) None 0 []
    (leaf form.Identifier (codes "ieee") ∷ leaf form.Identifier (codes "std_logic_1164") ∷ plain form.All [] ∷ []) ∷ []) ∷ [])
    ∷ plain form.EntityDeclaration
    (node form.Identifier (Some 464) None 0 (codes "k") [] ∷ absent
    ∷ plain form.PortClause
    (plain form.PortDeclaration
    (absent ∷ plain form.IdentifierList (node form.Identifier (Some 465) None 0 (codes "x") [] ∷ []) ∷ plain form.In []
    ∷ plain form.SubtypeIndication (node form.SelectedName (Some STD_ULOGIC) None 0 [] (leaf form.Identifier (codes "std_ulogic") ∷ []) ∷ absent ∷ [])
    ∷ absent ∷ []) ∷ [])
    ∷ plain form.Closing (plain form.ClosingWord [] ∷ absent ∷ []) ∷ []) ∷ [])

abbrev pub architecture_s_of_k : Forest Resolved
architecture_s_of_k =
    plain form.DesignUnit
    (plain form.ContextClause []
    ∷ plain form.ArchitectureBody
    (node form.Identifier (Some 466) None 0 (codes "s") [] ∷ node form.Identifier (Some 464) None 0 (codes "k") [] ∷ plain form.DeclarativePart []
    ∷ plain form.StatementPart [] ∷ plain form.Closing (plain form.ClosingWord [] ∷ absent ∷ []) ∷ []) ∷ [])

abbrev pub entity_t : Forest Resolved
entity_t =
    plain form.DesignUnit
    (plain form.ContextClause
    (plain form.LibraryClause (node form.Identifier (Some 467) None 0 (codes "ieee") [] ∷ [])
    ∷ plain form.UseClause
    (node form.SelectedName (Some 4) None 0 []
    (leaf form.Identifier (codes "ieee") ∷ leaf form.Identifier (codes "std_logic_1164") ∷ plain form.All [] ∷ []) ∷ []) ∷ [])
    ∷ plain form.EntityDeclaration
    (node form.Identifier (Some 468) None 0 (codes "t") [] ∷ absent ∷ absent ∷ plain form.Closing (plain form.ClosingWord [] ∷ absent ∷ []) ∷ []) ∷ [])

abbrev pub architecture_s_of_t : Forest Resolved
architecture_s_of_t =
    plain form.DesignUnit
    (plain form.ContextClause []
    ∷ plain form.ArchitectureBody
    (node form.Identifier (Some 469) None 0 (codes "s") [] ∷ node form.Identifier (Some 468) None 0 (codes "t") []
    ∷ plain form.DeclarativePart
    (plain form.SignalDeclaration
    (plain form.IdentifierList (node form.Identifier (Some 470) None 0 (codes "a") [] ∷ [])
    ∷ plain form.SubtypeIndication (node form.SelectedName (Some STD_ULOGIC) None 0 [] (leaf form.Identifier (codes "std_ulogic") ∷ []) ∷ absent ∷ [])
    ∷ node form.Letter (Some 164) (Some STD_ULOGIC) 3 (codes "1") [] ∷ [])
    ∷ plain form.SignalDeclaration
    (plain form.IdentifierList (node form.Identifier (Some 471) None 0 (codes "b") [] ∷ [])
    ∷ plain form.SubtypeIndication (node form.SelectedName (Some STD_ULOGIC) None 0 [] (leaf form.Identifier (codes "std_ulogic") ∷ []) ∷ absent ∷ [])
    ∷ node form.Letter (Some 163) (Some STD_ULOGIC) 2 (codes "0") [] ∷ []) ∷ [])
    ∷ plain form.StatementPart
    (plain form.LabelledConcurrent
    (node form.Identifier (Some 472) None 0 (codes "u") []
    ∷ plain form.EntityInstantiation
    (node form.SelectedName (Some 464) None 0 [] (leaf form.Identifier (codes "work") ∷ leaf form.Identifier (codes "k") ∷ []) ∷ absent ∷ absent
    ∷ plain form.PortMap
    (plain form.Association
    (plain form.AssociationChoices (node form.Name (Some 465) None 0 [] (leaf form.Identifier (codes "x") ∷ []) ∷ [])
    ∷ node form.And (Some 408) (Some STD_ULOGIC) 0 []
    (of form.Name STD_ULOGIC (node form.Identifier (Some 470) (Some STD_ULOGIC) 0 (codes "a") [] ∷ [])
    ∷ node form.Not (Some 413) (Some STD_ULOGIC) 0 []
    (of form.Name STD_ULOGIC (node form.Identifier (Some 471) (Some STD_ULOGIC) 0 (codes "b") [] ∷ []) ∷ []) ∷ []) ∷ []) ∷ []) ∷ []) ∷ []) ∷ [])
    ∷ plain form.Closing (plain form.ClosingWord [] ∷ absent ∷ []) ∷ []) ∷ [])

abbrev pub design : ResolvedTree
design = designed V2019 (entity_k ∷ architecture_s_of_k ∷ entity_t ∷ architecture_s_of_t ∷ []) declarations
