-- The syntax tree of a design. Written by tools/syntax-trees from examples/worked/nested_views.vhd, which is of revision 2019:
--
-- library ieee;
-- use ieee.std_logic_1164.all;
-- package pk is
--   type sub_r is record
--     c : std_ulogic;
--   end record;
--   type link_r is record
--     a : std_ulogic;
--     b : std_ulogic;
--     sub : sub_r;
--   end record;
--   view n of sub_r is
--     c : in;
--   end view;
--   view m of link_r is
--     a : in;
--     b : out;
--     sub : view n;
--   end view;
-- end package;
-- library ieee;
-- use ieee.std_logic_1164.all;
-- use work.pk.all;
-- entity ma is
--   port (p : view m of link_r);
-- end entity;
-- architecture r of ma is
-- begin
--   p.b <= p.a and p.sub.c;
-- end architecture;
-- use work.pk.all;
-- entity sl is
--   port (p : view m'converse);
-- end entity;
-- library ieee;
-- use ieee.std_logic_1164.all;
-- architecture r of sl is
-- begin
--   p.a <= '1';
--   p.sub.c <= '1' after 1 ns;
-- end architecture;
-- use work.pk.all;
-- entity t is
-- end entity;
-- architecture r of t is
--   signal s : link_r;
-- begin
--   u : entity work.ma port map (p => s);
--   v : entity work.sl port map (p => s);
-- end architecture;
use Rattle.std.specs.Prelude.{[], ◌∷◌, codes}
use Rattle.vd_forest.specs.Forest.{Forest}
use Rattle.vd_forms.specs.declared.form.Form.{Form}
use Rattle.vd_forms.specs.declared.form.Form.TheVariants as form
use Rattle.vd_named_designs.specs.Trees.{node, leaf, side_by_side}

abbrev pub units_0 : Forest Form
units_0 =
    node form.DesignUnit 1 1
    (node form.ContextClause 1 1
    (node form.LibraryClause 1 1 (leaf form.Identifier 1 9 (codes "ieee") ∷ [])
    ∷ node form.UseClause 2 1
    (node form.SelectedName 2 5 (leaf form.Identifier 2 5 (codes "ieee") ∷ leaf form.Identifier 2 10 (codes "std_logic_1164") ∷ node form.All 2 25 [] ∷ []) ∷ []) ∷ [])
    ∷ node form.PackageDeclaration 3 1
    (leaf form.Identifier 3 9 (codes "pk") ∷ node form.Absent 4 3 []
    ∷ node form.DeclarativePart 4 3
    (node form.TypeDeclaration 4 3
    (leaf form.Identifier 4 8 (codes "sub_r")
    ∷ node form.RecordType 4 17
    (node form.RecordElements 5 5
    (node form.RecordElement 5 5
    (node form.IdentifierList 5 5 (leaf form.Identifier 5 5 (codes "c") ∷ [])
    ∷ node form.SubtypeIndication 5 9 (node form.SelectedName 5 9 (leaf form.Identifier 5 9 (codes "std_ulogic") ∷ []) ∷ node form.Absent 5 19 [] ∷ []) ∷ []) ∷ [])
    ∷ node form.Absent 6 13 [] ∷ []) ∷ [])
    ∷ node form.TypeDeclaration 7 3
    (leaf form.Identifier 7 8 (codes "link_r")
    ∷ node form.RecordType 7 18
    (node form.RecordElements 8 5
    (node form.RecordElement 8 5
    (node form.IdentifierList 8 5 (leaf form.Identifier 8 5 (codes "a") ∷ [])
    ∷ node form.SubtypeIndication 8 9 (node form.SelectedName 8 9 (leaf form.Identifier 8 9 (codes "std_ulogic") ∷ []) ∷ node form.Absent 8 19 [] ∷ []) ∷ [])
    ∷ node form.RecordElement 9 5
    (node form.IdentifierList 9 5 (leaf form.Identifier 9 5 (codes "b") ∷ [])
    ∷ node form.SubtypeIndication 9 9 (node form.SelectedName 9 9 (leaf form.Identifier 9 9 (codes "std_ulogic") ∷ []) ∷ node form.Absent 9 19 [] ∷ []) ∷ [])
    ∷ node form.RecordElement 10 5
    (node form.IdentifierList 10 5 (leaf form.Identifier 10 5 (codes "sub") ∷ [])
    ∷ node form.SubtypeIndication 10 11 (node form.SelectedName 10 11 (leaf form.Identifier 10 11 (codes "sub_r") ∷ []) ∷ node form.Absent 10 16 [] ∷ []) ∷ []) ∷ [])
    ∷ node form.Absent 11 13 [] ∷ []) ∷ [])
    ∷ node form.ViewDeclaration 12 3
    (leaf form.Identifier 12 8 (codes "n") ∷ node form.SelectedName 12 13 (leaf form.Identifier 12 13 (codes "sub_r") ∷ [])
    ∷ node form.ViewElements 13 5
    (node form.ViewElement 13 5 (node form.IdentifierList 13 5 (leaf form.Identifier 13 5 (codes "c") ∷ []) ∷ node form.In 13 9 [] ∷ []) ∷ [])
    ∷ node form.Absent 14 11 [] ∷ [])
    ∷ node form.ViewDeclaration 15 3
    (leaf form.Identifier 15 8 (codes "m") ∷ node form.SelectedName 15 13 (leaf form.Identifier 15 13 (codes "link_r") ∷ [])
    ∷ node form.ViewElements 16 5
    (node form.ViewElement 16 5 (node form.IdentifierList 16 5 (leaf form.Identifier 16 5 (codes "a") ∷ []) ∷ node form.In 16 9 [] ∷ [])
    ∷ node form.ViewElement 17 5 (node form.IdentifierList 17 5 (leaf form.Identifier 17 5 (codes "b") ∷ []) ∷ node form.Out 17 9 [] ∷ [])
    ∷ node form.ViewElement 18 5
    (node form.IdentifierList 18 5 (leaf form.Identifier 18 5 (codes "sub") ∷ [])
    ∷ node form.ViewMode 18 11 (node form.SelectedName 18 16 (leaf form.Identifier 18 16 (codes "n") ∷ []) ∷ node form.Absent 18 17 [] ∷ []) ∷ []) ∷ [])
    ∷ node form.Absent 19 11 [] ∷ []) ∷ [])
    ∷ node form.Closing 20 5 (node form.ClosingWord 20 5 [] ∷ node form.Absent 20 12 [] ∷ []) ∷ []) ∷ [])

abbrev pub units_1 : Forest Form
units_1 =
    node form.DesignUnit 21 1
    (node form.ContextClause 21 1
    (node form.LibraryClause 21 1 (leaf form.Identifier 21 9 (codes "ieee") ∷ [])
    ∷ node form.UseClause 22 1
    (node form.SelectedName 22 5
    (leaf form.Identifier 22 5 (codes "ieee") ∷ leaf form.Identifier 22 10 (codes "std_logic_1164") ∷ node form.All 22 25 [] ∷ []) ∷ [])
    ∷ node form.UseClause 23 1
    (node form.SelectedName 23 5 (leaf form.Identifier 23 5 (codes "work") ∷ leaf form.Identifier 23 10 (codes "pk") ∷ node form.All 23 13 [] ∷ []) ∷ []) ∷ [])
    ∷ node form.EntityDeclaration 24 1
    (leaf form.Identifier 24 8 (codes "ma") ∷ node form.Absent 25 3 []
    ∷ node form.PortClause 25 3
    (node form.ViewPort 25 9
    (node form.Absent 25 9 [] ∷ node form.IdentifierList 25 9 (leaf form.Identifier 25 9 (codes "p") ∷ [])
    ∷ node form.SelectedName 25 18 (leaf form.Identifier 25 18 (codes "m") ∷ []) ∷ node form.Absent 25 20 []
    ∷ node form.SubtypeIndication 25 23 (node form.SelectedName 25 23 (leaf form.Identifier 25 23 (codes "link_r") ∷ []) ∷ node form.Absent 25 29 [] ∷ []) ∷ []) ∷ [])
    ∷ node form.Closing 26 5 (node form.ClosingWord 26 5 [] ∷ node form.Absent 26 11 [] ∷ []) ∷ []) ∷ [])

abbrev pub units_2 : Forest Form
units_2 =
    node form.DesignUnit 27 1
    (node form.ContextClause 27 1 []
    ∷ node form.ArchitectureBody 27 1
    (leaf form.Identifier 27 14 (codes "r") ∷ leaf form.Identifier 27 19 (codes "ma") ∷ node form.DeclarativePart 28 1 []
    ∷ node form.StatementPart 29 3
    (node form.ConcurrentAssignment 29 3
    (node form.Name 29 3 (leaf form.Identifier 29 3 (codes "p") ∷ node form.Selection 29 4 (leaf form.Identifier 29 5 (codes "b") ∷ []) ∷ [])
    ∷ node form.Absent 29 10 []
    ∷ node form.And 29 10
    (node form.Name 29 10 (leaf form.Identifier 29 10 (codes "p") ∷ node form.Selection 29 11 (leaf form.Identifier 29 12 (codes "a") ∷ []) ∷ [])
    ∷ node form.Name 29 18
    (leaf form.Identifier 29 18 (codes "p") ∷ node form.Selection 29 19 (leaf form.Identifier 29 20 (codes "sub") ∷ [])
    ∷ node form.Selection 29 23 (leaf form.Identifier 29 24 (codes "c") ∷ []) ∷ []) ∷ []) ∷ []) ∷ [])
    ∷ node form.Closing 30 5 (node form.ClosingWord 30 5 [] ∷ node form.Absent 30 17 [] ∷ []) ∷ []) ∷ [])

abbrev pub units_3 : Forest Form
units_3 =
    node form.DesignUnit 31 1
    (node form.ContextClause 31 1
    (node form.UseClause 31 1
    (node form.SelectedName 31 5 (leaf form.Identifier 31 5 (codes "work") ∷ leaf form.Identifier 31 10 (codes "pk") ∷ node form.All 31 13 [] ∷ []) ∷ []) ∷ [])
    ∷ node form.EntityDeclaration 32 1
    (leaf form.Identifier 32 8 (codes "sl") ∷ node form.Absent 33 3 []
    ∷ node form.PortClause 33 3
    (node form.ViewPort 33 9
    (node form.Absent 33 9 [] ∷ node form.IdentifierList 33 9 (leaf form.Identifier 33 9 (codes "p") ∷ [])
    ∷ node form.SelectedName 33 18 (leaf form.Identifier 33 18 (codes "m") ∷ []) ∷ leaf form.Identifier 33 20 (codes "converse")
    ∷ node form.Absent 33 28 [] ∷ []) ∷ [])
    ∷ node form.Closing 34 5 (node form.ClosingWord 34 5 [] ∷ node form.Absent 34 11 [] ∷ []) ∷ []) ∷ [])

abbrev pub units_4 : Forest Form
units_4 =
    node form.DesignUnit 35 1
    (node form.ContextClause 35 1
    (node form.LibraryClause 35 1 (leaf form.Identifier 35 9 (codes "ieee") ∷ [])
    ∷ node form.UseClause 36 1
    (node form.SelectedName 36 5
    (leaf form.Identifier 36 5 (codes "ieee") ∷ leaf form.Identifier 36 10 (codes "std_logic_1164") ∷ node form.All 36 25 [] ∷ []) ∷ []) ∷ [])
    ∷ node form.ArchitectureBody 37 1
    (leaf form.Identifier 37 14 (codes "r") ∷ leaf form.Identifier 37 19 (codes "sl") ∷ node form.DeclarativePart 38 1 []
    ∷ node form.StatementPart 39 3
    (node form.ConcurrentAssignment 39 3
    (node form.Name 39 3 (leaf form.Identifier 39 3 (codes "p") ∷ node form.Selection 39 4 (leaf form.Identifier 39 5 (codes "a") ∷ []) ∷ [])
    ∷ node form.Absent 39 10 [] ∷ leaf form.Letter 39 10 (codes "1") ∷ [])
    ∷ node form.ConcurrentAssignment 40 3
    (node form.Name 40 3
    (leaf form.Identifier 40 3 (codes "p") ∷ node form.Selection 40 4 (leaf form.Identifier 40 5 (codes "sub") ∷ [])
    ∷ node form.Selection 40 8 (leaf form.Identifier 40 9 (codes "c") ∷ []) ∷ [])
    ∷ node form.Absent 40 14 []
    ∷ node form.DelayedWaveform 40 14
    (leaf form.Letter 40 14 (codes "1")
    ∷ node form.PhysicalLiteral 40 24 (leaf form.Number 40 24 (codes "1") ∷ leaf form.Identifier 40 26 (codes "ns") ∷ []) ∷ []) ∷ []) ∷ [])
    ∷ node form.Closing 41 5 (node form.ClosingWord 41 5 [] ∷ node form.Absent 41 17 [] ∷ []) ∷ []) ∷ [])

abbrev pub units_5 : Forest Form
units_5 =
    node form.DesignUnit 42 1
    (node form.ContextClause 42 1
    (node form.UseClause 42 1
    (node form.SelectedName 42 5 (leaf form.Identifier 42 5 (codes "work") ∷ leaf form.Identifier 42 10 (codes "pk") ∷ node form.All 42 13 [] ∷ []) ∷ []) ∷ [])
    ∷ node form.EntityDeclaration 43 1
    (leaf form.Identifier 43 8 (codes "t") ∷ node form.Absent 44 1 [] ∷ node form.Absent 44 1 []
    ∷ node form.Closing 44 5 (node form.ClosingWord 44 5 [] ∷ node form.Absent 44 11 [] ∷ []) ∷ []) ∷ [])

abbrev pub units_6 : Forest Form
units_6 =
    node form.DesignUnit 45 1
    (node form.ContextClause 45 1 []
    ∷ node form.ArchitectureBody 45 1
    (leaf form.Identifier 45 14 (codes "r") ∷ leaf form.Identifier 45 19 (codes "t")
    ∷ node form.DeclarativePart 46 3
    (node form.SignalDeclaration 46 3
    (node form.IdentifierList 46 10 (leaf form.Identifier 46 10 (codes "s") ∷ [])
    ∷ node form.SubtypeIndication 46 14 (node form.SelectedName 46 14 (leaf form.Identifier 46 14 (codes "link_r") ∷ []) ∷ node form.Absent 46 20 [] ∷ [])
    ∷ node form.Absent 46 20 [] ∷ []) ∷ [])
    ∷ node form.StatementPart 48 3
    (node form.LabelledConcurrent 48 3
    (leaf form.Identifier 48 3 (codes "u")
    ∷ node form.EntityInstantiation 48 7
    (node form.SelectedName 48 14 (leaf form.Identifier 48 14 (codes "work") ∷ leaf form.Identifier 48 19 (codes "ma") ∷ []) ∷ node form.Absent 48 22 []
    ∷ node form.Absent 48 22 []
    ∷ node form.PortMap 48 22
    (node form.Association 48 32
    (node form.AssociationChoices 48 32 (node form.Name 48 32 (leaf form.Identifier 48 32 (codes "p") ∷ []) ∷ [])
    ∷ node form.Name 48 37 (leaf form.Identifier 48 37 (codes "s") ∷ []) ∷ []) ∷ []) ∷ []) ∷ [])
    ∷ node form.LabelledConcurrent 49 3
    (leaf form.Identifier 49 3 (codes "v")
    ∷ node form.EntityInstantiation 49 7
    (node form.SelectedName 49 14 (leaf form.Identifier 49 14 (codes "work") ∷ leaf form.Identifier 49 19 (codes "sl") ∷ []) ∷ node form.Absent 49 22 []
    ∷ node form.Absent 49 22 []
    ∷ node form.PortMap 49 22
    (node form.Association 49 32
    (node form.AssociationChoices 49 32 (node form.Name 49 32 (leaf form.Identifier 49 32 (codes "p") ∷ []) ∷ [])
    ∷ node form.Name 49 37 (leaf form.Identifier 49 37 (codes "s") ∷ []) ∷ []) ∷ []) ∷ []) ∷ []) ∷ [])
    ∷ node form.Closing 50 5 (node form.ClosingWord 50 5 [] ∷ node form.Absent 50 17 [] ∷ []) ∷ []) ∷ [])

abbrev pub units : Forest Form
units = side_by_side (units_0 ∷ units_1 ∷ units_2 ∷ units_3 ∷ units_4 ∷ units_5 ∷ units_6 ∷ [])
