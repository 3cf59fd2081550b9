-- The tree of a design. Written by tools/resolved-trees from examples/worked/matching.vhd, which is of revision 2019:
--
-- library ieee;
-- use ieee.std_logic_1164.all;
-- entity m is
-- end entity;
-- architecture a of m is
--   signal sel : std_ulogic_vector(2 downto 0) := "0-1";
-- begin
--   process (all)
--   begin
--     case? sel is
--       when "1--" =>
--         report "first";
--       when others =>
--         report "other";
--     end case?;
--   end process;
-- end architecture;
use Rattle.std.specs.Prelude.{List, [], ◌∷◌, Some, None, codes}
use Rattle.vd_declarations.specs.declared.classes.Class.TheVariants as class
use Rattle.vd_declarations.specs.declared.declarations.Declaration.{Declaration}
use Rattle.vd_forest.specs.Forest.{Forest}
use Rattle.vd_forms.specs.declared.form.Form.TheVariants as form
use Rattle.vd_resolved.specs.declared.node.Resolved.{Resolved}
use Rattle.vd_predefined.specs.Entries.{declared}
use Rattle.vd_predefined.specs.declared.numbers.TheConstants.{INTEGER, STRING, STD_ULOGIC_VECTOR}
use Rattle.vd_meaning_facts.specs.Trees.{node, plain, absent, of, leaf}
use Rattle.vd_trees.specs.declared.revision.Revision.TheVariants.{V2019}
use Rattle.vd_resolved.specs.Trees.{ResolvedTree}
use Rattle.vd_design_facts.specs.Designs.{designed}

abbrev pub declarations : List Declaration
declarations =
    declared (class.LibraryName 2) (codes "ieee") None []
    ∷ declared class.Entity (codes "m") None []
    ∷ declared class.Architecture (codes "a") None []
    ∷ declared class.Signal (codes "sel") (Some STD_ULOGIC_VECTOR) [] ∷ []

abbrev pub entity_m : Forest Resolved
entity_m =
    plain form.DesignUnit
    (plain form.ContextClause
    (plain form.LibraryClause (node form.Identifier (Some 463) None 0 (codes "ieee") [] ∷ [])
    ∷ plain form.UseClause
    (node form.SelectedName (Some 4) None 0 []
    (leaf form.Identifier (codes "ieee") ∷ leaf form.Identifier (codes "std_logic_1164") ∷ plain form.All [] ∷ []) ∷ []) ∷ [])
    ∷ plain form.EntityDeclaration
    (node form.Identifier (Some 464) None 0 (codes "m") [] ∷ absent ∷ absent ∷ plain form.Closing (plain form.ClosingWord [] ∷ absent ∷ []) ∷ []) ∷ [])

abbrev pub architecture_a_of_m : Forest Resolved
architecture_a_of_m =
    plain form.DesignUnit
    (plain form.ContextClause []
    ∷ plain form.ArchitectureBody
    (node form.Identifier (Some 465) None 0 (codes "a") [] ∷ node form.Identifier (Some 464) None 0 (codes "m") []
    ∷ plain form.DeclarativePart
    (plain form.SignalDeclaration
    (plain form.IdentifierList (node form.Identifier (Some 466) None 0 (codes "sel") [] ∷ [])
    ∷ plain form.SubtypeIndication
    (node form.SelectedName (Some STD_ULOGIC_VECTOR) None 0 [] (leaf form.Identifier (codes "std_ulogic_vector") ∷ [])
    ∷ plain form.IndexConstraint
    (of form.Descending INTEGER (node form.Number None (Some INTEGER) 0 (codes "2") [] ∷ node form.Number None (Some INTEGER) 0 (codes "0") [] ∷ []) ∷ []) ∷ [])
    ∷ node form.Quoted None (Some STD_ULOGIC_VECTOR) 0 (codes "0-1") [] ∷ []) ∷ [])
    ∷ plain form.StatementPart
    (plain form.ProcessStatement
    (plain form.All [] ∷ absent ∷ plain form.DeclarativePart []
    ∷ plain form.Statements
    (plain form.CaseStatement
    (plain form.Matching [] ∷ of form.Name STD_ULOGIC_VECTOR (node form.Identifier (Some 466) (Some STD_ULOGIC_VECTOR) 0 (codes "sel") [] ∷ [])
    ∷ plain form.CaseAlternatives
    (plain form.CaseAlternative
    (plain form.Choices (node form.Quoted None (Some STD_ULOGIC_VECTOR) 0 (codes "1--") [] ∷ [])
    ∷ plain form.Statements (plain form.ReportStatement (node form.Quoted None (Some STRING) 0 (codes "first") [] ∷ absent ∷ []) ∷ []) ∷ [])
    ∷ plain form.CaseAlternative
    (plain form.Others []
    ∷ plain form.Statements (plain form.ReportStatement (node form.Quoted None (Some STRING) 0 (codes "other") [] ∷ absent ∷ []) ∷ []) ∷ []) ∷ [])
    ∷ plain form.Matching [] ∷ absent ∷ []) ∷ [])
    ∷ absent ∷ []) ∷ [])
    ∷ plain form.Closing (plain form.ClosingWord [] ∷ absent ∷ []) ∷ []) ∷ [])

abbrev pub design : ResolvedTree
design = designed V2019 (entity_m ∷ architecture_a_of_m ∷ []) declarations
