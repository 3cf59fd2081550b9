-- The tree of a design. Written by tools/resolved-trees from examples/worked/links.vhd, which is of revision 2019:
--
-- library ieee;
-- use ieee.std_logic_1164.all;
-- package bulk_pk is
--   type link_r is record
--     d : std_ulogic;
--     r : std_ulogic;
--   end record;
--   view tx_v of link_r is
--     d : out;
--     r : in;
--   end view;
-- end package;
-- library ieee;
-- use ieee.std_logic_1164.all;
-- entity u_1 is
--   port (i : view work.bulk_pk.tx_v'converse of work.bulk_pk.link_r; o : view work.bulk_pk.tx_v of work.bulk_pk.link_r);
-- end entity;
-- architecture r of u_1 is
-- begin
--   process (all)
--   begin
--     case? i.d & o.r is
--       when "1-" =>
--         o.d <= '1';
--       when "0-" =>
--         o.d <= '0';
--       when others =>
--         o.d <= 'X';
--     end case?;
--     i.r <= o.r;
--   end process;
-- end architecture;
-- library ieee;
-- use ieee.std_logic_1164.all;
-- entity bulk_top is
-- end entity;
-- architecture r of bulk_top is
--   signal l_0 : work.bulk_pk.link_r;
--   signal l_1 : work.bulk_pk.link_r;
-- begin
--   process
--   begin
--     l_0.d <= '0';
--     wait for 5 ns;
--     l_0.d <= '1';
--     wait for 5 ns;
--   end process;
--   l_1.r <= '1';
--   d_1 : entity work.u_1 port map (i => l_0, o => l_1);
-- end architecture;
use Rattle.std.specs.Prelude.{List, [], ◌∷◌, Some, None, codes}
use Rattle.vd_declarations.specs.declared.classes.Class.TheVariants as class
use Rattle.vd_declarations.specs.declared.declarations.Declaration.{Declaration}
use Rattle.vd_forest.specs.Forest.{Forest}
use Rattle.vd_forms.specs.declared.form.Form.TheVariants as form
use Rattle.vd_resolved.specs.declared.node.Resolved.{Resolved}
use Rattle.vd_predefined.specs.Entries.{declared}
use Rattle.vd_predefined.specs.declared.numbers.TheConstants.{BOOLEAN, INTEGER, TIME, STD_ULOGIC, STD_ULOGIC_VECTOR}
use Rattle.vd_meaning_facts.specs.Trees.{node, plain, absent, of, leaf}
use Rattle.vd_trees.specs.declared.revision.Revision.TheVariants.{V2019}
use Rattle.vd_resolved.specs.Trees.{ResolvedTree}
use Rattle.vd_design_facts.specs.Designs.{designed}

abbrev pub declarations : List Declaration
declarations =
    declared (class.LibraryName 2) (codes "ieee") None []
    ∷ declared class.Package (codes "bulk_pk") None []
    ∷ declared class.RecordType (codes "link_r") None (466 ∷ 467 ∷ [])
    ∷ declared class.RecordElement (codes "d") (Some STD_ULOGIC) []
    ∷ declared class.RecordElement (codes "r") (Some STD_ULOGIC) []
    ∷ declared class.Parameter (codes "l") (Some 465) []
    ∷ declared class.Parameter (codes "r") (Some 465) []
    ∷ declared class.Parameter (codes "l") (Some INTEGER) []
    ∷ declared class.Parameter (codes "r") (Some INTEGER) []
    ∷ declared class.PredefinedOperator (codes "\"=\"") (Some BOOLEAN) (468 ∷ 469 ∷ [])
    ∷ declared class.PredefinedOperator (codes "\"/=\"") (Some BOOLEAN) (468 ∷ 469 ∷ [])
    ∷ declared class.View (codes "tx_v") None []
    ∷ declared (class.LibraryName 2) (codes "ieee") None []
    ∷ declared class.Entity (codes "u_1") None (477 ∷ 478 ∷ [])
    ∷ declared class.Port (codes "i") (Some 465) []
    ∷ declared class.Port (codes "o") (Some 465) []
    ∷ declared class.Architecture (codes "r") None []
    ∷ declared (class.LibraryName 2) (codes "ieee") None []
    ∷ declared class.Entity (codes "bulk_top") None []
    ∷ declared class.Architecture (codes "r") None []
    ∷ declared class.Signal (codes "l_0") (Some 465) []
    ∷ declared class.Signal (codes "l_1") (Some 465) []
    ∷ declared class.Label (codes "d_1") None [] ∷ []

abbrev pub package_bulk_pk : Forest Resolved
package_bulk_pk =
    plain form.DesignUnit
    (plain form.ContextClause
    (plain form.LibraryClause (node form.Identifier (Some 463) None 0 (codes "ieee") [] ∷ [])
    ∷ plain form.UseClause
    (node form.SelectedName (Some 4) None 0 []
    (leaf form.Identifier (codes "ieee") ∷ leaf form.Identifier (codes "std_logic_1164") ∷ plain form.All [] ∷ []) ∷ []) ∷ [])
    ∷ plain form.PackageDeclaration
    (node form.Identifier (Some 464) None 0 (codes "bulk_pk") [] ∷ absent
    ∷ plain form.DeclarativePart
    (node form.TypeDeclaration (Some 465) None 0 []
    (node form.Identifier (Some 465) None 0 (codes "link_r") []
    ∷ plain form.RecordType
    (plain form.RecordElements
    (plain form.RecordElement
    (plain form.IdentifierList (node form.Identifier (Some 466) None 0 (codes "d") [] ∷ [])
    ∷ plain form.SubtypeIndication (node form.SelectedName (Some STD_ULOGIC) None 0 [] (leaf form.Identifier (codes "std_ulogic") ∷ []) ∷ absent ∷ []) ∷ [])
    ∷ plain form.RecordElement
    (plain form.IdentifierList (node form.Identifier (Some 467) None 0 (codes "r") [] ∷ [])
    ∷ plain form.SubtypeIndication (node form.SelectedName (Some STD_ULOGIC) None 0 [] (leaf form.Identifier (codes "std_ulogic") ∷ []) ∷ absent ∷ []) ∷ []) ∷ [])
    ∷ absent ∷ []) ∷ [])
    ∷ node form.ViewDeclaration (Some 474) None 0 []
    (node form.Identifier (Some 474) None 0 (codes "tx_v") [] ∷ node form.SelectedName (Some 465) None 0 [] (leaf form.Identifier (codes "link_r") ∷ [])
    ∷ plain form.ViewElements
    (plain form.ViewElement (plain form.IdentifierList (node form.Identifier (Some 466) None 0 (codes "d") [] ∷ []) ∷ plain form.Out [] ∷ [])
    ∷ plain form.ViewElement (plain form.IdentifierList (node form.Identifier (Some 467) None 0 (codes "r") [] ∷ []) ∷ plain form.In [] ∷ []) ∷ [])
    ∷ absent ∷ []) ∷ [])
    ∷ plain form.Closing (plain form.ClosingWord [] ∷ absent ∷ []) ∷ []) ∷ [])

abbrev pub entity_u_1 : Forest Resolved
entity_u_1 =
    plain form.DesignUnit
    (plain form.ContextClause
    (plain form.LibraryClause (node form.Identifier (Some 475) None 0 (codes "ieee") [] ∷ [])
    ∷ plain form.UseClause
    (node form.SelectedName (Some 4) None 0 []
    (leaf form.Identifier (codes "ieee") ∷ leaf form.Identifier (codes "std_logic_1164") ∷ plain form.All [] ∷ []) ∷ []) ∷ [])
    ∷ plain form.EntityDeclaration
    (node form.Identifier (Some 476) None 0 (codes "u_1") [] ∷ absent
    ∷ plain form.PortClause
    (plain form.ViewPort
    (absent ∷ plain form.IdentifierList (node form.Identifier (Some 477) None 0 (codes "i") [] ∷ [])
    ∷ node form.SelectedName (Some 474) None 0 []
    (leaf form.Identifier (codes "work") ∷ leaf form.Identifier (codes "bulk_pk") ∷ leaf form.Identifier (codes "tx_v") ∷ [])
    ∷ leaf form.Identifier (codes "converse")
    ∷ plain form.SubtypeIndication
    (node form.SelectedName (Some 465) None 0 []
    (leaf form.Identifier (codes "work") ∷ leaf form.Identifier (codes "bulk_pk") ∷ leaf form.Identifier (codes "link_r") ∷ [])
    ∷ absent ∷ []) ∷ [])
    ∷ plain form.ViewPort
    (absent ∷ plain form.IdentifierList (node form.Identifier (Some 478) None 0 (codes "o") [] ∷ [])
    ∷ node form.SelectedName (Some 474) None 0 []
    (leaf form.Identifier (codes "work") ∷ leaf form.Identifier (codes "bulk_pk") ∷ leaf form.Identifier (codes "tx_v") ∷ [])
    ∷ absent
    ∷ plain form.SubtypeIndication
    (node form.SelectedName (Some 465) None 0 []
    (leaf form.Identifier (codes "work") ∷ leaf form.Identifier (codes "bulk_pk") ∷ leaf form.Identifier (codes "link_r") ∷ [])
    ∷ absent ∷ []) ∷ []) ∷ [])
    ∷ plain form.Closing (plain form.ClosingWord [] ∷ absent ∷ []) ∷ []) ∷ [])

abbrev pub architecture_r_of_u_1 : Forest Resolved
architecture_r_of_u_1 =
    plain form.DesignUnit
    (plain form.ContextClause []
    ∷ plain form.ArchitectureBody
    (node form.Identifier (Some 479) None 0 (codes "r") [] ∷ node form.Identifier (Some 476) None 0 (codes "u_1") [] ∷ plain form.DeclarativePart []
    ∷ plain form.StatementPart
    (plain form.ProcessStatement
    (plain form.All [] ∷ absent ∷ plain form.DeclarativePart []
    ∷ plain form.Statements
    (plain form.CaseStatement
    (plain form.Matching []
    ∷ node form.Concatenate (Some 377) (Some STD_ULOGIC_VECTOR) 0 []
    (of form.Name STD_ULOGIC
    (node form.Identifier (Some 477) (Some 465) 0 (codes "i") []
    ∷ node form.Selection (Some 466) (Some STD_ULOGIC) 0 [] (leaf form.Identifier (codes "d") ∷ []) ∷ [])
    ∷ of form.Name STD_ULOGIC
    (node form.Identifier (Some 478) (Some 465) 0 (codes "o") []
    ∷ node form.Selection (Some 467) (Some STD_ULOGIC) 1 [] (leaf form.Identifier (codes "r") ∷ []) ∷ []) ∷ [])
    ∷ plain form.CaseAlternatives
    (plain form.CaseAlternative
    (plain form.Choices (node form.Quoted None (Some STD_ULOGIC_VECTOR) 0 (codes "1-") [] ∷ [])
    ∷ plain form.Statements
    (plain form.SignalAssignment
    (of form.Name STD_ULOGIC
    (node form.Identifier (Some 478) (Some 465) 0 (codes "o") []
    ∷ node form.Selection (Some 466) (Some STD_ULOGIC) 0 [] (leaf form.Identifier (codes "d") ∷ []) ∷ [])
    ∷ absent ∷ node form.Letter (Some 164) (Some STD_ULOGIC) 3 (codes "1") [] ∷ []) ∷ []) ∷ [])
    ∷ plain form.CaseAlternative
    (plain form.Choices (node form.Quoted None (Some STD_ULOGIC_VECTOR) 0 (codes "0-") [] ∷ [])
    ∷ plain form.Statements
    (plain form.SignalAssignment
    (of form.Name STD_ULOGIC
    (node form.Identifier (Some 478) (Some 465) 0 (codes "o") []
    ∷ node form.Selection (Some 466) (Some STD_ULOGIC) 0 [] (leaf form.Identifier (codes "d") ∷ []) ∷ [])
    ∷ absent ∷ node form.Letter (Some 163) (Some STD_ULOGIC) 2 (codes "0") [] ∷ []) ∷ []) ∷ [])
    ∷ plain form.CaseAlternative
    (plain form.Others []
    ∷ plain form.Statements
    (plain form.SignalAssignment
    (of form.Name STD_ULOGIC
    (node form.Identifier (Some 478) (Some 465) 0 (codes "o") []
    ∷ node form.Selection (Some 466) (Some STD_ULOGIC) 0 [] (leaf form.Identifier (codes "d") ∷ []) ∷ [])
    ∷ absent ∷ node form.Letter (Some 162) (Some STD_ULOGIC) 1 (codes "X") [] ∷ []) ∷ []) ∷ []) ∷ [])
    ∷ plain form.Matching [] ∷ absent ∷ [])
    ∷ plain form.SignalAssignment
    (of form.Name STD_ULOGIC
    (node form.Identifier (Some 477) (Some 465) 0 (codes "i") []
    ∷ node form.Selection (Some 467) (Some STD_ULOGIC) 1 [] (leaf form.Identifier (codes "r") ∷ []) ∷ [])
    ∷ absent
    ∷ of form.Name STD_ULOGIC
    (node form.Identifier (Some 478) (Some 465) 0 (codes "o") []
    ∷ node form.Selection (Some 467) (Some STD_ULOGIC) 1 [] (leaf form.Identifier (codes "r") ∷ []) ∷ []) ∷ []) ∷ [])
    ∷ absent ∷ []) ∷ [])
    ∷ plain form.Closing (plain form.ClosingWord [] ∷ absent ∷ []) ∷ []) ∷ [])

abbrev pub entity_bulk_top : Forest Resolved
entity_bulk_top =
    plain form.DesignUnit
    (plain form.ContextClause
    (plain form.LibraryClause (node form.Identifier (Some 480) None 0 (codes "ieee") [] ∷ [])
    ∷ plain form.UseClause
    (node form.SelectedName (Some 4) None 0 []
    (leaf form.Identifier (codes "ieee") ∷ leaf form.Identifier (codes "std_logic_1164") ∷ plain form.All [] ∷ []) ∷ []) ∷ [])
    ∷ plain form.EntityDeclaration
    (node form.Identifier (Some 481) None 0 (codes "bulk_top") [] ∷ absent ∷ absent ∷ plain form.Closing (plain form.ClosingWord [] ∷ absent ∷ []) ∷ []) ∷ [])

abbrev pub architecture_r_of_bulk_top : Forest Resolved
architecture_r_of_bulk_top =
    plain form.DesignUnit
    (plain form.ContextClause []
    ∷ plain form.ArchitectureBody
    (node form.Identifier (Some 482) None 0 (codes "r") [] ∷ node form.Identifier (Some 481) None 0 (codes "bulk_top") []
    ∷ plain form.DeclarativePart
    (plain form.SignalDeclaration
    (plain form.IdentifierList (node form.Identifier (Some 483) None 0 (codes "l_0") [] ∷ [])
    ∷ plain form.SubtypeIndication
    (node form.SelectedName (Some 465) None 0 []
    (leaf form.Identifier (codes "work") ∷ leaf form.Identifier (codes "bulk_pk") ∷ leaf form.Identifier (codes "link_r") ∷ [])
    ∷ absent ∷ [])
    ∷ absent ∷ [])
    ∷ plain form.SignalDeclaration
    (plain form.IdentifierList (node form.Identifier (Some 484) None 0 (codes "l_1") [] ∷ [])
    ∷ plain form.SubtypeIndication
    (node form.SelectedName (Some 465) None 0 []
    (leaf form.Identifier (codes "work") ∷ leaf form.Identifier (codes "bulk_pk") ∷ leaf form.Identifier (codes "link_r") ∷ [])
    ∷ absent ∷ [])
    ∷ absent ∷ []) ∷ [])
    ∷ plain form.StatementPart
    (plain form.ProcessStatement
    (absent ∷ absent ∷ plain form.DeclarativePart []
    ∷ plain form.Statements
    (plain form.SignalAssignment
    (of form.Name STD_ULOGIC
    (node form.Identifier (Some 483) (Some 465) 0 (codes "l_0") []
    ∷ node form.Selection (Some 466) (Some STD_ULOGIC) 0 [] (leaf form.Identifier (codes "d") ∷ []) ∷ [])
    ∷ absent ∷ node form.Letter (Some 163) (Some STD_ULOGIC) 2 (codes "0") [] ∷ [])
    ∷ plain form.WaitStatement
    (absent ∷ absent
    ∷ of form.PhysicalLiteral TIME (node form.Number None (Some INTEGER) 0 (codes "5") [] ∷ node form.Identifier (Some 149) None 0 (codes "ns") [] ∷ []) ∷ [])
    ∷ plain form.SignalAssignment
    (of form.Name STD_ULOGIC
    (node form.Identifier (Some 483) (Some 465) 0 (codes "l_0") []
    ∷ node form.Selection (Some 466) (Some STD_ULOGIC) 0 [] (leaf form.Identifier (codes "d") ∷ []) ∷ [])
    ∷ absent ∷ node form.Letter (Some 164) (Some STD_ULOGIC) 3 (codes "1") [] ∷ [])
    ∷ plain form.WaitStatement
    (absent ∷ absent
    ∷ of form.PhysicalLiteral TIME (node form.Number None (Some INTEGER) 0 (codes "5") [] ∷ node form.Identifier (Some 149) None 0 (codes "ns") [] ∷ []) ∷ []) ∷ [])
    ∷ absent ∷ [])
    ∷ plain form.ConcurrentAssignment
    (of form.Name STD_ULOGIC
    (node form.Identifier (Some 484) (Some 465) 0 (codes "l_1") []
    ∷ node form.Selection (Some 467) (Some STD_ULOGIC) 1 [] (leaf form.Identifier (codes "r") ∷ []) ∷ [])
    ∷ absent ∷ node form.Letter (Some 164) (Some STD_ULOGIC) 3 (codes "1") [] ∷ [])
    ∷ plain form.LabelledConcurrent
    (node form.Identifier (Some 485) None 0 (codes "d_1") []
    ∷ plain form.EntityInstantiation
    (node form.SelectedName (Some 476) None 0 [] (leaf form.Identifier (codes "work") ∷ leaf form.Identifier (codes "u_1") ∷ []) ∷ absent ∷ absent
    ∷ plain form.PortMap
    (plain form.Association
    (plain form.AssociationChoices (node form.Name (Some 477) None 0 [] (leaf form.Identifier (codes "i") ∷ []) ∷ [])
    ∷ of form.Name 465 (node form.Identifier (Some 483) (Some 465) 0 (codes "l_0") [] ∷ []) ∷ [])
    ∷ plain form.Association
    (plain form.AssociationChoices (node form.Name (Some 478) None 0 [] (leaf form.Identifier (codes "o") ∷ []) ∷ [])
    ∷ of form.Name 465 (node form.Identifier (Some 484) (Some 465) 0 (codes "l_1") [] ∷ []) ∷ []) ∷ []) ∷ []) ∷ []) ∷ [])
    ∷ plain form.Closing (plain form.ClosingWord [] ∷ absent ∷ []) ∷ []) ∷ [])

abbrev pub design : ResolvedTree
design = designed V2019 (package_bulk_pk ∷ entity_u_1 ∷ architecture_r_of_u_1 ∷ entity_bulk_top ∷ architecture_r_of_bulk_top ∷ []) declarations
