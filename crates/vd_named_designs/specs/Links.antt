-- The syntax tree of a design. Written by tools/syntax-trees from examples/worked/links.vhd, which is of revision 2019:
--
-- library ieee;
-- use ieee.std_logic_1164.all;
-- package bulk_pk is
--   type link_r is record
--     d : std_ulogic;
--     r : std_ulogic;
--   end record;
--   view tx_v of link_r is
--     d : out;
--     r : in;
--   end view;
-- end package;
-- library ieee;
-- use ieee.std_logic_1164.all;
-- entity u_1 is
--   port (i : view work.bulk_pk.tx_v'converse of work.bulk_pk.link_r; o : view work.bulk_pk.tx_v of work.bulk_pk.link_r);
-- end entity;
-- architecture r of u_1 is
-- begin
--   process (all)
--   begin
--     case? i.d & o.r is
--       when "1-" =>
--         o.d <= '1';
--       when "0-" =>
--         o.d <= '0';
--       when others =>
--         o.d <= 'X';
--     end case?;
--     i.r <= o.r;
--   end process;
-- end architecture;
-- library ieee;
-- use ieee.std_logic_1164.all;
-- entity bulk_top is
-- end entity;
-- architecture r of bulk_top is
--   signal l_0 : work.bulk_pk.link_r;
--   signal l_1 : work.bulk_pk.link_r;
-- begin
--   process
--   begin
--     l_0.d <= '0';
--     wait for 5 ns;
--     l_0.d <= '1';
--     wait for 5 ns;
--   end process;
--   l_1.r <= '1';
--   d_1 : entity work.u_1 port map (i => l_0, o => l_1);
-- end architecture;
use Rattle.std.specs.Prelude.{[], ◌∷◌, codes}
use Rattle.vd_forest.specs.Forest.{Forest}
use Rattle.vd_forms.specs.declared.form.Form.{Form}
use Rattle.vd_forms.specs.declared.form.Form.TheVariants as form
use Rattle.vd_named_designs.specs.Trees.{node, leaf, side_by_side}

abbrev pub units_0 : Forest Form
units_0 =
    node form.DesignUnit 1 1
    (node form.ContextClause 1 1
    (node form.LibraryClause 1 1 (leaf form.Identifier 1 9 (codes "ieee") ∷ [])
    ∷ node form.UseClause 2 1
    (node form.SelectedName 2 5 (leaf form.Identifier 2 5 (codes "ieee") ∷ leaf form.Identifier 2 10 (codes "std_logic_1164") ∷ node form.All 2 25 [] ∷ []) ∷ []) ∷ [])
    ∷ node form.PackageDeclaration 3 1
    (leaf form.Identifier 3 9 (codes "bulk_pk") ∷ node form.Absent 4 3 []
    ∷ node form.DeclarativePart 4 3
    (node form.TypeDeclaration 4 3
    (leaf form.Identifier 4 8 (codes "link_r")
    ∷ node form.RecordType 4 18
    (node form.RecordElements 5 5
    (node form.RecordElement 5 5
    (node form.IdentifierList 5 5 (leaf form.Identifier 5 5 (codes "d") ∷ [])
    ∷ node form.SubtypeIndication 5 9 (node form.SelectedName 5 9 (leaf form.Identifier 5 9 (codes "std_ulogic") ∷ []) ∷ node form.Absent 5 19 [] ∷ []) ∷ [])
    ∷ node form.RecordElement 6 5
    (node form.IdentifierList 6 5 (leaf form.Identifier 6 5 (codes "r") ∷ [])
    ∷ node form.SubtypeIndication 6 9 (node form.SelectedName 6 9 (leaf form.Identifier 6 9 (codes "std_ulogic") ∷ []) ∷ node form.Absent 6 19 [] ∷ []) ∷ []) ∷ [])
    ∷ node form.Absent 7 13 [] ∷ []) ∷ [])
    ∷ node form.ViewDeclaration 8 3
    (leaf form.Identifier 8 8 (codes "tx_v") ∷ node form.SelectedName 8 16 (leaf form.Identifier 8 16 (codes "link_r") ∷ [])
    ∷ node form.ViewElements 9 5
    (node form.ViewElement 9 5 (node form.IdentifierList 9 5 (leaf form.Identifier 9 5 (codes "d") ∷ []) ∷ node form.Out 9 9 [] ∷ [])
    ∷ node form.ViewElement 10 5 (node form.IdentifierList 10 5 (leaf form.Identifier 10 5 (codes "r") ∷ []) ∷ node form.In 10 9 [] ∷ []) ∷ [])
    ∷ node form.Absent 11 11 [] ∷ []) ∷ [])
    ∷ node form.Closing 12 5 (node form.ClosingWord 12 5 [] ∷ node form.Absent 12 12 [] ∷ []) ∷ []) ∷ [])

abbrev pub units_1 : Forest Form
units_1 =
    node form.DesignUnit 13 1
    (node form.ContextClause 13 1
    (node form.LibraryClause 13 1 (leaf form.Identifier 13 9 (codes "ieee") ∷ [])
    ∷ node form.UseClause 14 1
    (node form.SelectedName 14 5
    (leaf form.Identifier 14 5 (codes "ieee") ∷ leaf form.Identifier 14 10 (codes "std_logic_1164") ∷ node form.All 14 25 [] ∷ []) ∷ []) ∷ [])
    ∷ node form.EntityDeclaration 15 1
    (leaf form.Identifier 15 8 (codes "u_1") ∷ node form.Absent 16 3 []
    ∷ node form.PortClause 16 3
    (node form.ViewPort 16 9
    (node form.Absent 16 9 [] ∷ node form.IdentifierList 16 9 (leaf form.Identifier 16 9 (codes "i") ∷ [])
    ∷ node form.SelectedName 16 18
    (leaf form.Identifier 16 18 (codes "work") ∷ leaf form.Identifier 16 23 (codes "bulk_pk") ∷ leaf form.Identifier 16 31 (codes "tx_v") ∷ [])
    ∷ leaf form.Identifier 16 36 (codes "converse")
    ∷ node form.SubtypeIndication 16 48
    (node form.SelectedName 16 48
    (leaf form.Identifier 16 48 (codes "work") ∷ leaf form.Identifier 16 53 (codes "bulk_pk") ∷ leaf form.Identifier 16 61 (codes "link_r") ∷ [])
    ∷ node form.Absent 16 67 [] ∷ []) ∷ [])
    ∷ node form.ViewPort 16 69
    (node form.Absent 16 69 [] ∷ node form.IdentifierList 16 69 (leaf form.Identifier 16 69 (codes "o") ∷ [])
    ∷ node form.SelectedName 16 78
    (leaf form.Identifier 16 78 (codes "work") ∷ leaf form.Identifier 16 83 (codes "bulk_pk") ∷ leaf form.Identifier 16 91 (codes "tx_v") ∷ [])
    ∷ node form.Absent 16 96 []
    ∷ node form.SubtypeIndication 16 99
    (node form.SelectedName 16 99
    (leaf form.Identifier 16 99 (codes "work") ∷ leaf form.Identifier 16 104 (codes "bulk_pk") ∷ leaf form.Identifier 16 112 (codes "link_r") ∷ [])
    ∷ node form.Absent 16 118 [] ∷ []) ∷ []) ∷ [])
    ∷ node form.Closing 17 5 (node form.ClosingWord 17 5 [] ∷ node form.Absent 17 11 [] ∷ []) ∷ []) ∷ [])

abbrev pub units_2 : Forest Form
units_2 =
    node form.DesignUnit 18 1
    (node form.ContextClause 18 1 []
    ∷ node form.ArchitectureBody 18 1
    (leaf form.Identifier 18 14 (codes "r") ∷ leaf form.Identifier 18 19 (codes "u_1") ∷ node form.DeclarativePart 19 1 []
    ∷ node form.StatementPart 20 3
    (node form.ProcessStatement 20 3
    (node form.All 20 12 [] ∷ node form.Absent 21 3 [] ∷ node form.DeclarativePart 21 3 []
    ∷ node form.Statements 22 5
    (node form.CaseStatement 22 5
    (node form.Matching 22 9 []
    ∷ node form.Concatenate 22 11
    (node form.Name 22 11 (leaf form.Identifier 22 11 (codes "i") ∷ node form.Selection 22 12 (leaf form.Identifier 22 13 (codes "d") ∷ []) ∷ [])
    ∷ node form.Name 22 17 (leaf form.Identifier 22 17 (codes "o") ∷ node form.Selection 22 18 (leaf form.Identifier 22 19 (codes "r") ∷ []) ∷ []) ∷ [])
    ∷ node form.CaseAlternatives 23 12
    (node form.CaseAlternative 23 12
    (node form.Choices 23 12 (leaf form.Quoted 23 12 (codes "1-") ∷ [])
    ∷ node form.Statements 24 9
    (node form.SignalAssignment 24 9
    (node form.Name 24 9 (leaf form.Identifier 24 9 (codes "o") ∷ node form.Selection 24 10 (leaf form.Identifier 24 11 (codes "d") ∷ []) ∷ [])
    ∷ node form.Absent 24 16 [] ∷ leaf form.Letter 24 16 (codes "1") ∷ []) ∷ []) ∷ [])
    ∷ node form.CaseAlternative 25 12
    (node form.Choices 25 12 (leaf form.Quoted 25 12 (codes "0-") ∷ [])
    ∷ node form.Statements 26 9
    (node form.SignalAssignment 26 9
    (node form.Name 26 9 (leaf form.Identifier 26 9 (codes "o") ∷ node form.Selection 26 10 (leaf form.Identifier 26 11 (codes "d") ∷ []) ∷ [])
    ∷ node form.Absent 26 16 [] ∷ leaf form.Letter 26 16 (codes "0") ∷ []) ∷ []) ∷ [])
    ∷ node form.CaseAlternative 27 12
    (node form.Others 27 12 []
    ∷ node form.Statements 28 9
    (node form.SignalAssignment 28 9
    (node form.Name 28 9 (leaf form.Identifier 28 9 (codes "o") ∷ node form.Selection 28 10 (leaf form.Identifier 28 11 (codes "d") ∷ []) ∷ [])
    ∷ node form.Absent 28 16 [] ∷ leaf form.Letter 28 16 (codes "X") ∷ []) ∷ []) ∷ []) ∷ [])
    ∷ node form.Matching 29 13 [] ∷ node form.Absent 29 14 [] ∷ [])
    ∷ node form.SignalAssignment 30 5
    (node form.Name 30 5 (leaf form.Identifier 30 5 (codes "i") ∷ node form.Selection 30 6 (leaf form.Identifier 30 7 (codes "r") ∷ []) ∷ [])
    ∷ node form.Absent 30 12 []
    ∷ node form.Name 30 12 (leaf form.Identifier 30 12 (codes "o") ∷ node form.Selection 30 13 (leaf form.Identifier 30 14 (codes "r") ∷ []) ∷ []) ∷ []) ∷ [])
    ∷ node form.Absent 31 14 [] ∷ []) ∷ [])
    ∷ node form.Closing 32 5 (node form.ClosingWord 32 5 [] ∷ node form.Absent 32 17 [] ∷ []) ∷ []) ∷ [])

abbrev pub units_3 : Forest Form
units_3 =
    node form.DesignUnit 33 1
    (node form.ContextClause 33 1
    (node form.LibraryClause 33 1 (leaf form.Identifier 33 9 (codes "ieee") ∷ [])
    ∷ node form.UseClause 34 1
    (node form.SelectedName 34 5
    (leaf form.Identifier 34 5 (codes "ieee") ∷ leaf form.Identifier 34 10 (codes "std_logic_1164") ∷ node form.All 34 25 [] ∷ []) ∷ []) ∷ [])
    ∷ node form.EntityDeclaration 35 1
    (leaf form.Identifier 35 8 (codes "bulk_top") ∷ node form.Absent 36 1 [] ∷ node form.Absent 36 1 []
    ∷ node form.Closing 36 5 (node form.ClosingWord 36 5 [] ∷ node form.Absent 36 11 [] ∷ []) ∷ []) ∷ [])

abbrev pub units_4 : Forest Form
units_4 =
    node form.DesignUnit 37 1
    (node form.ContextClause 37 1 []
    ∷ node form.ArchitectureBody 37 1
    (leaf form.Identifier 37 14 (codes "r") ∷ leaf form.Identifier 37 19 (codes "bulk_top")
    ∷ node form.DeclarativePart 38 3
    (node form.SignalDeclaration 38 3
    (node form.IdentifierList 38 10 (leaf form.Identifier 38 10 (codes "l_0") ∷ [])
    ∷ node form.SubtypeIndication 38 16
    (node form.SelectedName 38 16
    (leaf form.Identifier 38 16 (codes "work") ∷ leaf form.Identifier 38 21 (codes "bulk_pk") ∷ leaf form.Identifier 38 29 (codes "link_r") ∷ [])
    ∷ node form.Absent 38 35 [] ∷ [])
    ∷ node form.Absent 38 35 [] ∷ [])
    ∷ node form.SignalDeclaration 39 3
    (node form.IdentifierList 39 10 (leaf form.Identifier 39 10 (codes "l_1") ∷ [])
    ∷ node form.SubtypeIndication 39 16
    (node form.SelectedName 39 16
    (leaf form.Identifier 39 16 (codes "work") ∷ leaf form.Identifier 39 21 (codes "bulk_pk") ∷ leaf form.Identifier 39 29 (codes "link_r") ∷ [])
    ∷ node form.Absent 39 35 [] ∷ [])
    ∷ node form.Absent 39 35 [] ∷ []) ∷ [])
    ∷ node form.StatementPart 41 3
    (node form.ProcessStatement 41 3
    (node form.Absent 42 3 [] ∷ node form.Absent 42 3 [] ∷ node form.DeclarativePart 42 3 []
    ∷ node form.Statements 43 5
    (node form.SignalAssignment 43 5
    (node form.Name 43 5 (leaf form.Identifier 43 5 (codes "l_0") ∷ node form.Selection 43 8 (leaf form.Identifier 43 9 (codes "d") ∷ []) ∷ [])
    ∷ node form.Absent 43 14 [] ∷ leaf form.Letter 43 14 (codes "0") ∷ [])
    ∷ node form.WaitStatement 44 5
    (node form.Absent 44 10 [] ∷ node form.Absent 44 10 []
    ∷ node form.PhysicalLiteral 44 14 (leaf form.Number 44 14 (codes "5") ∷ leaf form.Identifier 44 16 (codes "ns") ∷ []) ∷ [])
    ∷ node form.SignalAssignment 45 5
    (node form.Name 45 5 (leaf form.Identifier 45 5 (codes "l_0") ∷ node form.Selection 45 8 (leaf form.Identifier 45 9 (codes "d") ∷ []) ∷ [])
    ∷ node form.Absent 45 14 [] ∷ leaf form.Letter 45 14 (codes "1") ∷ [])
    ∷ node form.WaitStatement 46 5
    (node form.Absent 46 10 [] ∷ node form.Absent 46 10 []
    ∷ node form.PhysicalLiteral 46 14 (leaf form.Number 46 14 (codes "5") ∷ leaf form.Identifier 46 16 (codes "ns") ∷ []) ∷ []) ∷ [])
    ∷ node form.Absent 47 14 [] ∷ [])
    ∷ node form.ConcurrentAssignment 48 3
    (node form.Name 48 3 (leaf form.Identifier 48 3 (codes "l_1") ∷ node form.Selection 48 6 (leaf form.Identifier 48 7 (codes "r") ∷ []) ∷ [])
    ∷ node form.Absent 48 12 [] ∷ leaf form.Letter 48 12 (codes "1") ∷ [])
    ∷ node form.LabelledConcurrent 49 3
    (leaf form.Identifier 49 3 (codes "d_1")
    ∷ node form.EntityInstantiation 49 9
    (node form.SelectedName 49 16 (leaf form.Identifier 49 16 (codes "work") ∷ leaf form.Identifier 49 21 (codes "u_1") ∷ []) ∷ node form.Absent 49 25 []
    ∷ node form.Absent 49 25 []
    ∷ node form.PortMap 49 25
    (node form.Association 49 35
    (node form.AssociationChoices 49 35 (node form.Name 49 35 (leaf form.Identifier 49 35 (codes "i") ∷ []) ∷ [])
    ∷ node form.Name 49 40 (leaf form.Identifier 49 40 (codes "l_0") ∷ []) ∷ [])
    ∷ node form.Association 49 45
    (node form.AssociationChoices 49 45 (node form.Name 49 45 (leaf form.Identifier 49 45 (codes "o") ∷ []) ∷ [])
    ∷ node form.Name 49 50 (leaf form.Identifier 49 50 (codes "l_1") ∷ []) ∷ []) ∷ []) ∷ []) ∷ []) ∷ [])
    ∷ node form.Closing 50 5 (node form.ClosingWord 50 5 [] ∷ node form.Absent 50 17 [] ∷ []) ∷ []) ∷ [])

abbrev pub units : Forest Form
units = side_by_side (units_0 ∷ units_1 ∷ units_2 ∷ units_3 ∷ units_4 ∷ [])
