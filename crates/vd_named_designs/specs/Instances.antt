-- The syntax tree of a design. Written by tools/syntax-trees from examples/worked/instances.vhd, which is of revision 2019:
--
-- package pairs is
--   generic (type t; start : t);
--   type pair is record
--     a : t;
--     b : t;
--   end record;
--   constant empty : pair := (start, start);
--   function turned(p : pair) return pair;
-- end package;
-- package body pairs is
--   function turned(p : pair) return pair is
--   begin
--     return (p.b, p.a);
--   end;
-- end package body;
-- package bits is new work.pairs generic map (t => bit, start => '0');
-- package numbers is new work.pairs generic map (t => integer, start => 3);
-- entity g is
-- end entity;
-- architecture a of g is
--   signal x : work.bits.pair := ('0', '1');
--   signal y : work.numbers.pair := work.numbers.empty;
-- begin
--   process
--   begin
--     x <= work.bits.turned(x);
--     y <= work.numbers.turned((7, y.a));
--     wait;
--   end process;
-- end architecture;
use Rattle.std.specs.Prelude.{[], ◌∷◌, codes}
use Rattle.vd_forest.specs.Forest.{Forest}
use Rattle.vd_forms.specs.declared.form.Form.{Form}
use Rattle.vd_forms.specs.declared.form.Form.TheVariants as form
use Rattle.vd_named_designs.specs.Trees.{node, leaf, side_by_side}

abbrev pub units_0 : Forest Form
units_0 =
    node form.DesignUnit 1 1
    (node form.ContextClause 1 1 []
    ∷ node form.PackageDeclaration 1 1
    (leaf form.Identifier 1 9 (codes "pairs")
    ∷ node form.GenericClause 2 3
    (node form.GenericType 2 12 (leaf form.Identifier 2 17 (codes "t") ∷ [])
    ∷ node form.GenericConstant 2 20
    (node form.Absent 2 20 [] ∷ node form.IdentifierList 2 20 (leaf form.Identifier 2 20 (codes "start") ∷ []) ∷ node form.Absent 2 28 []
    ∷ node form.SubtypeIndication 2 28 (node form.SelectedName 2 28 (leaf form.Identifier 2 28 (codes "t") ∷ []) ∷ node form.Absent 2 29 [] ∷ [])
    ∷ node form.Absent 2 29 [] ∷ []) ∷ [])
    ∷ node form.DeclarativePart 3 3
    (node form.TypeDeclaration 3 3
    (leaf form.Identifier 3 8 (codes "pair")
    ∷ node form.RecordType 3 16
    (node form.RecordElements 4 5
    (node form.RecordElement 4 5
    (node form.IdentifierList 4 5 (leaf form.Identifier 4 5 (codes "a") ∷ [])
    ∷ node form.SubtypeIndication 4 9 (node form.SelectedName 4 9 (leaf form.Identifier 4 9 (codes "t") ∷ []) ∷ node form.Absent 4 10 [] ∷ []) ∷ [])
    ∷ node form.RecordElement 5 5
    (node form.IdentifierList 5 5 (leaf form.Identifier 5 5 (codes "b") ∷ [])
    ∷ node form.SubtypeIndication 5 9 (node form.SelectedName 5 9 (leaf form.Identifier 5 9 (codes "t") ∷ []) ∷ node form.Absent 5 10 [] ∷ []) ∷ []) ∷ [])
    ∷ node form.Absent 6 13 [] ∷ []) ∷ [])
    ∷ node form.ConstantDeclaration 7 3
    (node form.IdentifierList 7 12 (leaf form.Identifier 7 12 (codes "empty") ∷ [])
    ∷ node form.SubtypeIndication 7 20 (node form.SelectedName 7 20 (leaf form.Identifier 7 20 (codes "pair") ∷ []) ∷ node form.Absent 7 25 [] ∷ [])
    ∷ node form.Aggregate 7 28
    (node form.Name 7 29 (leaf form.Identifier 7 29 (codes "start") ∷ []) ∷ node form.Name 7 36 (leaf form.Identifier 7 36 (codes "start") ∷ []) ∷ []) ∷ [])
    ∷ node form.FunctionDeclaration 8 3
    (node form.Absent 8 3 [] ∷ leaf form.Identifier 8 12 (codes "turned") ∷ node form.Absent 8 18 [] ∷ node form.Absent 8 18 []
    ∷ node form.ParameterList 8 18
    (node form.ParameterDeclaration 8 19
    (node form.Absent 8 19 [] ∷ node form.IdentifierList 8 19 (leaf form.Identifier 8 19 (codes "p") ∷ []) ∷ node form.Absent 8 23 []
    ∷ node form.SubtypeIndication 8 23 (node form.SelectedName 8 23 (leaf form.Identifier 8 23 (codes "pair") ∷ []) ∷ node form.Absent 8 27 [] ∷ []) ∷ []) ∷ [])
    ∷ node form.SelectedName 8 36 (leaf form.Identifier 8 36 (codes "pair") ∷ []) ∷ []) ∷ [])
    ∷ node form.Closing 9 5 (node form.ClosingWord 9 5 [] ∷ node form.Absent 9 12 [] ∷ []) ∷ []) ∷ [])

abbrev pub units_1 : Forest Form
units_1 =
    node form.DesignUnit 10 1
    (node form.ContextClause 10 1 []
    ∷ node form.PackageBody 10 9
    (leaf form.Identifier 10 14 (codes "pairs")
    ∷ node form.DeclarativePart 11 3
    (node form.FunctionBody 11 3
    (node form.Absent 11 3 [] ∷ leaf form.Identifier 11 12 (codes "turned") ∷ node form.Absent 11 18 [] ∷ node form.Absent 11 18 []
    ∷ node form.ParameterList 11 18
    (node form.ParameterDeclaration 11 19
    (node form.Absent 11 19 [] ∷ node form.IdentifierList 11 19 (leaf form.Identifier 11 19 (codes "p") ∷ []) ∷ node form.Absent 11 23 []
    ∷ node form.SubtypeIndication 11 23 (node form.SelectedName 11 23 (leaf form.Identifier 11 23 (codes "pair") ∷ []) ∷ node form.Absent 11 27 [] ∷ []) ∷ []) ∷ [])
    ∷ node form.SelectedName 11 36 (leaf form.Identifier 11 36 (codes "pair") ∷ []) ∷ node form.DeclarativePart 12 3 []
    ∷ node form.Statements 13 5
    (node form.ReturnStatement 13 5
    (node form.Aggregate 13 12
    (node form.Name 13 13 (leaf form.Identifier 13 13 (codes "p") ∷ node form.Selection 13 14 (leaf form.Identifier 13 15 (codes "b") ∷ []) ∷ [])
    ∷ node form.Name 13 18 (leaf form.Identifier 13 18 (codes "p") ∷ node form.Selection 13 19 (leaf form.Identifier 13 20 (codes "a") ∷ []) ∷ []) ∷ []) ∷ []) ∷ [])
    ∷ node form.FunctionClosing 14 6 (node form.Absent 14 6 [] ∷ node form.Absent 14 6 [] ∷ []) ∷ []) ∷ [])
    ∷ node form.Closing 15 5 (node form.ClosingWord 15 5 [] ∷ node form.Absent 15 17 [] ∷ []) ∷ []) ∷ [])

abbrev pub units_2 : Forest Form
units_2 =
    node form.DesignUnit 16 1
    (node form.ContextClause 16 1 []
    ∷ node form.PackageInstantiation 16 1
    (leaf form.Identifier 16 9 (codes "bits")
    ∷ node form.SelectedName 16 21 (leaf form.Identifier 16 21 (codes "work") ∷ leaf form.Identifier 16 26 (codes "pairs") ∷ [])
    ∷ node form.GenericMap 16 32
    (node form.Association 16 45
    (node form.AssociationChoices 16 45 (node form.Name 16 45 (leaf form.Identifier 16 45 (codes "t") ∷ []) ∷ [])
    ∷ node form.Name 16 50 (leaf form.Identifier 16 50 (codes "bit") ∷ []) ∷ [])
    ∷ node form.Association 16 55
    (node form.AssociationChoices 16 55 (node form.Name 16 55 (leaf form.Identifier 16 55 (codes "start") ∷ []) ∷ []) ∷ leaf form.Letter 16 64 (codes "0") ∷ []) ∷ []) ∷ []) ∷ [])

abbrev pub units_3 : Forest Form
units_3 =
    node form.DesignUnit 17 1
    (node form.ContextClause 17 1 []
    ∷ node form.PackageInstantiation 17 1
    (leaf form.Identifier 17 9 (codes "numbers")
    ∷ node form.SelectedName 17 24 (leaf form.Identifier 17 24 (codes "work") ∷ leaf form.Identifier 17 29 (codes "pairs") ∷ [])
    ∷ node form.GenericMap 17 35
    (node form.Association 17 48
    (node form.AssociationChoices 17 48 (node form.Name 17 48 (leaf form.Identifier 17 48 (codes "t") ∷ []) ∷ [])
    ∷ node form.Name 17 53 (leaf form.Identifier 17 53 (codes "integer") ∷ []) ∷ [])
    ∷ node form.Association 17 62
    (node form.AssociationChoices 17 62 (node form.Name 17 62 (leaf form.Identifier 17 62 (codes "start") ∷ []) ∷ []) ∷ leaf form.Number 17 71 (codes "3") ∷ []) ∷ []) ∷ []) ∷ [])

abbrev pub units_4 : Forest Form
units_4 =
    node form.DesignUnit 18 1
    (node form.ContextClause 18 1 []
    ∷ node form.EntityDeclaration 18 1
    (leaf form.Identifier 18 8 (codes "g") ∷ node form.Absent 19 1 [] ∷ node form.Absent 19 1 []
    ∷ node form.Closing 19 5 (node form.ClosingWord 19 5 [] ∷ node form.Absent 19 11 [] ∷ []) ∷ []) ∷ [])

abbrev pub units_5 : Forest Form
units_5 =
    node form.DesignUnit 20 1
    (node form.ContextClause 20 1 []
    ∷ node form.ArchitectureBody 20 1
    (leaf form.Identifier 20 14 (codes "a") ∷ leaf form.Identifier 20 19 (codes "g")
    ∷ node form.DeclarativePart 21 3
    (node form.SignalDeclaration 21 3
    (node form.IdentifierList 21 10 (leaf form.Identifier 21 10 (codes "x") ∷ [])
    ∷ node form.SubtypeIndication 21 14
    (node form.SelectedName 21 14
    (leaf form.Identifier 21 14 (codes "work") ∷ leaf form.Identifier 21 19 (codes "bits") ∷ leaf form.Identifier 21 24 (codes "pair") ∷ [])
    ∷ node form.Absent 21 29 [] ∷ [])
    ∷ node form.Aggregate 21 32 (leaf form.Letter 21 33 (codes "0") ∷ leaf form.Letter 21 38 (codes "1") ∷ []) ∷ [])
    ∷ node form.SignalDeclaration 22 3
    (node form.IdentifierList 22 10 (leaf form.Identifier 22 10 (codes "y") ∷ [])
    ∷ node form.SubtypeIndication 22 14
    (node form.SelectedName 22 14
    (leaf form.Identifier 22 14 (codes "work") ∷ leaf form.Identifier 22 19 (codes "numbers") ∷ leaf form.Identifier 22 27 (codes "pair") ∷ [])
    ∷ node form.Absent 22 32 [] ∷ [])
    ∷ node form.Name 22 35
    (leaf form.Identifier 22 35 (codes "work") ∷ node form.Selection 22 39 (leaf form.Identifier 22 40 (codes "numbers") ∷ [])
    ∷ node form.Selection 22 47 (leaf form.Identifier 22 48 (codes "empty") ∷ []) ∷ []) ∷ []) ∷ [])
    ∷ node form.StatementPart 24 3
    (node form.ProcessStatement 24 3
    (node form.Absent 25 3 [] ∷ node form.Absent 25 3 [] ∷ node form.DeclarativePart 25 3 []
    ∷ node form.Statements 26 5
    (node form.SignalAssignment 26 5
    (node form.Name 26 5 (leaf form.Identifier 26 5 (codes "x") ∷ []) ∷ node form.Absent 26 10 []
    ∷ node form.Name 26 10
    (leaf form.Identifier 26 10 (codes "work") ∷ node form.Selection 26 14 (leaf form.Identifier 26 15 (codes "bits") ∷ [])
    ∷ node form.Selection 26 19 (leaf form.Identifier 26 20 (codes "turned") ∷ [])
    ∷ node form.Arguments 26 26 (node form.Name 26 27 (leaf form.Identifier 26 27 (codes "x") ∷ []) ∷ []) ∷ []) ∷ [])
    ∷ node form.SignalAssignment 27 5
    (node form.Name 27 5 (leaf form.Identifier 27 5 (codes "y") ∷ []) ∷ node form.Absent 27 10 []
    ∷ node form.Name 27 10
    (leaf form.Identifier 27 10 (codes "work") ∷ node form.Selection 27 14 (leaf form.Identifier 27 15 (codes "numbers") ∷ [])
    ∷ node form.Selection 27 22 (leaf form.Identifier 27 23 (codes "turned") ∷ [])
    ∷ node form.Arguments 27 29
    (node form.Aggregate 27 30
    (leaf form.Number 27 31 (codes "7")
    ∷ node form.Name 27 34 (leaf form.Identifier 27 34 (codes "y") ∷ node form.Selection 27 35 (leaf form.Identifier 27 36 (codes "a") ∷ []) ∷ []) ∷ []) ∷ []) ∷ []) ∷ [])
    ∷ node form.WaitStatement 28 5 (node form.Absent 28 9 [] ∷ node form.Absent 28 9 [] ∷ node form.Absent 28 9 [] ∷ []) ∷ [])
    ∷ node form.Absent 29 14 [] ∷ []) ∷ [])
    ∷ node form.Closing 30 5 (node form.ClosingWord 30 5 [] ∷ node form.Absent 30 17 [] ∷ []) ∷ []) ∷ [])

abbrev pub units : Forest Form
units = side_by_side (units_0 ∷ units_1 ∷ units_2 ∷ units_3 ∷ units_4 ∷ units_5 ∷ [])
