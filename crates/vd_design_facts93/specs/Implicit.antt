-- The tree of a design. Written by tools/resolved-trees from examples/worked/implicit_93.vhd, which is of revision 1993:
--
-- library ieee;
-- use ieee.std_logic_1164.all;
-- entity k is
--   port (x : in std_ulogic);
-- end entity k;
-- architecture s of k is
-- begin
-- end architecture s;
-- library ieee;
-- use ieee.std_logic_1164.all;
-- entity t is
-- end entity t;
-- architecture s of t is
--   signal a : std_ulogic := '1';
--   signal b : std_ulogic := '0';
--   signal u_x : std_ulogic;
-- begin
--   u_x <= a and (not b);
--   u : entity work.k port map (x => u_x);
-- end architecture s;
use Rattle.std.specs.Prelude.{List, [], ◌∷◌, Some, None, codes}
use Rattle.vd_declarations.specs.declared.classes.Class.TheVariants as class
use Rattle.vd_declarations.specs.declared.declarations.Declaration.{Declaration}
use Rattle.vd_forest.specs.Forest.{Forest}
use Rattle.vd_forms.specs.declared.form.Form.TheVariants as form
use Rattle.vd_resolved.specs.declared.node.Resolved.{Resolved}
use Rattle.vd_predefined.specs.Entries.{declared}
use Rattle.vd_predefined.specs.declared.numbers.TheConstants.{STD_ULOGIC}
use Rattle.vd_meaning_facts.specs.Trees.{node, plain, absent, of, leaf}
use Rattle.vd_trees.specs.declared.revision.Revision.TheVariants.{V1993}
use Rattle.vd_resolved.specs.Trees.{ResolvedTree}
use Rattle.vd_design_facts.specs.Designs.{designed}

abbrev pub declarations : List Declaration
declarations =
    declared (class.LibraryName 2) (codes "ieee") None []
    ∷ declared class.Entity (codes "k") None (389 ∷ [])
    ∷ declared class.Port (codes "x") (Some STD_ULOGIC) []
    ∷ declared class.Architecture (codes "s") None []
    ∷ declared (class.LibraryName 2) (codes "ieee") None []
    ∷ declared class.Entity (codes "t") None []
    ∷ declared class.Architecture (codes "s") None []
    ∷ declared class.Signal (codes "a") (Some STD_ULOGIC) []
    ∷ declared class.Signal (codes "b") (Some STD_ULOGIC) []
    ∷ declared class.Signal (codes "u_x") (Some STD_ULOGIC) []
    ∷ declared class.Label (codes "u") None [] ∷ []

abbrev pub entity_k : Forest Resolved
entity_k =
    plain form.DesignUnit
    (plain form.ContextClause
    (plain form.LibraryClause (node form.Identifier (Some 387) None 0 (codes "ieee") [] ∷ [])
    ∷ plain form.UseClause
    (node form.SelectedName (Some 4) None 0 []
    (leaf form.Identifier (codes "ieee") ∷ leaf form.Identifier (codes "std_logic_1164") ∷ plain form.All [] ∷ []) ∷ []) ∷ [])
    ∷ plain form.EntityDeclaration
    (node form.Identifier (Some 388) None 0 (codes "k") [] ∷ absent
    ∷ plain form.PortClause
    (plain form.PortDeclaration
    (absent ∷ plain form.IdentifierList (node form.Identifier (Some 389) None 0 (codes "x") [] ∷ []) ∷ plain form.In []
    ∷ plain form.SubtypeIndication (node form.SelectedName (Some STD_ULOGIC) None 0 [] (leaf form.Identifier (codes "std_ulogic") ∷ []) ∷ absent ∷ [])
    ∷ absent ∷ []) ∷ [])
    ∷ plain form.Closing (plain form.ClosingWord [] ∷ leaf form.Identifier (codes "k") ∷ []) ∷ []) ∷ [])

abbrev pub architecture_s_of_k : Forest Resolved
architecture_s_of_k =
    plain form.DesignUnit
    (plain form.ContextClause []
    ∷ plain form.ArchitectureBody
    (node form.Identifier (Some 390) None 0 (codes "s") [] ∷ node form.Identifier (Some 388) None 0 (codes "k") [] ∷ plain form.DeclarativePart []
    ∷ plain form.StatementPart [] ∷ plain form.Closing (plain form.ClosingWord [] ∷ leaf form.Identifier (codes "s") ∷ []) ∷ []) ∷ [])

abbrev pub entity_t : Forest Resolved
entity_t =
    plain form.DesignUnit
    (plain form.ContextClause
    (plain form.LibraryClause (node form.Identifier (Some 391) None 0 (codes "ieee") [] ∷ [])
    ∷ plain form.UseClause
    (node form.SelectedName (Some 4) None 0 []
    (leaf form.Identifier (codes "ieee") ∷ leaf form.Identifier (codes "std_logic_1164") ∷ plain form.All [] ∷ []) ∷ []) ∷ [])
    ∷ plain form.EntityDeclaration
    (node form.Identifier (Some 392) None 0 (codes "t") [] ∷ absent ∷ absent
    ∷ plain form.Closing (plain form.ClosingWord [] ∷ leaf form.Identifier (codes "t") ∷ []) ∷ []) ∷ [])

abbrev pub architecture_s_of_t : Forest Resolved
architecture_s_of_t =
    plain form.DesignUnit
    (plain form.ContextClause []
    ∷ plain form.ArchitectureBody
    (node form.Identifier (Some 393) None 0 (codes "s") [] ∷ node form.Identifier (Some 392) None 0 (codes "t") []
    ∷ plain form.DeclarativePart
    (plain form.SignalDeclaration
    (plain form.IdentifierList (node form.Identifier (Some 394) None 0 (codes "a") [] ∷ [])
    ∷ plain form.SubtypeIndication (node form.SelectedName (Some STD_ULOGIC) None 0 [] (leaf form.Identifier (codes "std_ulogic") ∷ []) ∷ absent ∷ [])
    ∷ node form.Letter (Some 164) (Some STD_ULOGIC) 3 (codes "1") [] ∷ [])
    ∷ plain form.SignalDeclaration
    (plain form.IdentifierList (node form.Identifier (Some 395) None 0 (codes "b") [] ∷ [])
    ∷ plain form.SubtypeIndication (node form.SelectedName (Some STD_ULOGIC) None 0 [] (leaf form.Identifier (codes "std_ulogic") ∷ []) ∷ absent ∷ [])
    ∷ node form.Letter (Some 163) (Some STD_ULOGIC) 2 (codes "0") [] ∷ [])
    ∷ plain form.SignalDeclaration
    (plain form.IdentifierList (node form.Identifier (Some 396) None 0 (codes "u_x") [] ∷ [])
    ∷ plain form.SubtypeIndication (node form.SelectedName (Some STD_ULOGIC) None 0 [] (leaf form.Identifier (codes "std_ulogic") ∷ []) ∷ absent ∷ [])
    ∷ absent ∷ []) ∷ [])
    ∷ plain form.StatementPart
    (plain form.ConcurrentAssignment
    (of form.Name STD_ULOGIC (node form.Identifier (Some 396) (Some STD_ULOGIC) 0 (codes "u_x") [] ∷ []) ∷ absent
    ∷ node form.And (Some 357) (Some STD_ULOGIC) 0 []
    (of form.Name STD_ULOGIC (node form.Identifier (Some 394) (Some STD_ULOGIC) 0 (codes "a") [] ∷ [])
    ∷ node form.Not (Some 362) (Some STD_ULOGIC) 0 []
    (of form.Name STD_ULOGIC (node form.Identifier (Some 395) (Some STD_ULOGIC) 0 (codes "b") [] ∷ []) ∷ []) ∷ []) ∷ [])
    ∷ plain form.LabelledConcurrent
    (node form.Identifier (Some 397) None 0 (codes "u") []
    ∷ plain form.EntityInstantiation
    (node form.SelectedName (Some 388) None 0 [] (leaf form.Identifier (codes "work") ∷ leaf form.Identifier (codes "k") ∷ []) ∷ absent ∷ absent
    ∷ plain form.PortMap
    (plain form.Association
    (plain form.AssociationChoices (node form.Name (Some 389) None 0 [] (leaf form.Identifier (codes "x") ∷ []) ∷ [])
    ∷ of form.Name STD_ULOGIC (node form.Identifier (Some 396) (Some STD_ULOGIC) 0 (codes "u_x") [] ∷ []) ∷ []) ∷ []) ∷ []) ∷ []) ∷ [])
    ∷ plain form.Closing (plain form.ClosingWord [] ∷ leaf form.Identifier (codes "s") ∷ []) ∷ []) ∷ [])

abbrev pub design : ResolvedTree
design = designed V1993 (entity_k ∷ architecture_s_of_k ∷ entity_t ∷ architecture_s_of_t ∷ []) declarations
