-- The syntax tree of a design. Written by tools/syntax-trees from examples/worked/package_instance.vhd, which is of revision 2019:
--
-- package p is
--   generic (type t; c : t; function f(x : t) return t is <>);
--   type r is record a, b : t; end record;
--   constant d : t := f(c);
--   function g(x : t) return t;
-- end package;
-- package body p is
--   function g(x : t) return t is begin return f(x); end;
-- end package body;
-- package b is
--   function f(x : integer) return integer;
--   function f(x : bit) return bit;
-- end package;
-- package body b is
--   function f(x : integer) return integer is begin return x; end;
--   function f(x : bit) return bit is begin return x; end;
-- end package body;
-- use work.b.all;
-- package q is new work.p generic map (c => 3, t => natural);
-- entity e is
-- end entity;
-- architecture a of e is
--   signal s : work.q.t := work.q.f(work.q.g(work.q.d));
--   signal u : work.q.r := (a => s, b => 2);
-- begin
-- end architecture;
use Rattle.std.specs.Prelude.{[], ◌∷◌, codes}
use Rattle.vd_forest.specs.Forest.{Forest}
use Rattle.vd_forms.specs.declared.form.Form.{Form}
use Rattle.vd_forms.specs.declared.form.Form.TheVariants as form
use Rattle.vd_named_designs.specs.Trees.{node, leaf, side_by_side}

abbrev pub units_0 : Forest Form
units_0 =
    node form.DesignUnit 1 1
    (node form.ContextClause 1 1 []
    ∷ node form.PackageDeclaration 1 1
    (leaf form.Identifier 1 9 (codes "p")
    ∷ node form.GenericClause 2 3
    (node form.GenericType 2 12 (leaf form.Identifier 2 17 (codes "t") ∷ [])
    ∷ node form.GenericConstant 2 20
    (node form.Absent 2 20 [] ∷ node form.IdentifierList 2 20 (leaf form.Identifier 2 20 (codes "c") ∷ []) ∷ node form.Absent 2 24 []
    ∷ node form.SubtypeIndication 2 24 (node form.SelectedName 2 24 (leaf form.Identifier 2 24 (codes "t") ∷ []) ∷ node form.Absent 2 25 [] ∷ [])
    ∷ node form.Absent 2 25 [] ∷ [])
    ∷ node form.GenericFunction 2 27
    (node form.Absent 2 27 [] ∷ leaf form.Identifier 2 36 (codes "f")
    ∷ node form.ParameterList 2 37
    (node form.ParameterDeclaration 2 38
    (node form.Absent 2 38 [] ∷ node form.IdentifierList 2 38 (leaf form.Identifier 2 38 (codes "x") ∷ []) ∷ node form.Absent 2 42 []
    ∷ node form.SubtypeIndication 2 42 (node form.SelectedName 2 42 (leaf form.Identifier 2 42 (codes "t") ∷ []) ∷ node form.Absent 2 43 [] ∷ []) ∷ []) ∷ [])
    ∷ node form.SelectedName 2 52 (leaf form.Identifier 2 52 (codes "t") ∷ []) ∷ node form.Box 2 54 [] ∷ []) ∷ [])
    ∷ node form.DeclarativePart 3 3
    (node form.TypeDeclaration 3 3
    (leaf form.Identifier 3 8 (codes "r")
    ∷ node form.RecordType 3 13
    (node form.RecordElements 3 20
    (node form.RecordElement 3 20
    (node form.IdentifierList 3 20 (leaf form.Identifier 3 20 (codes "a") ∷ leaf form.Identifier 3 23 (codes "b") ∷ [])
    ∷ node form.SubtypeIndication 3 27 (node form.SelectedName 3 27 (leaf form.Identifier 3 27 (codes "t") ∷ []) ∷ node form.Absent 3 28 [] ∷ []) ∷ []) ∷ [])
    ∷ node form.Absent 3 40 [] ∷ []) ∷ [])
    ∷ node form.ConstantDeclaration 4 3
    (node form.IdentifierList 4 12 (leaf form.Identifier 4 12 (codes "d") ∷ [])
    ∷ node form.SubtypeIndication 4 16 (node form.SelectedName 4 16 (leaf form.Identifier 4 16 (codes "t") ∷ []) ∷ node form.Absent 4 18 [] ∷ [])
    ∷ node form.Name 4 21
    (leaf form.Identifier 4 21 (codes "f") ∷ node form.Arguments 4 22 (node form.Name 4 23 (leaf form.Identifier 4 23 (codes "c") ∷ []) ∷ []) ∷ []) ∷ [])
    ∷ node form.FunctionDeclaration 5 3
    (node form.Absent 5 3 [] ∷ leaf form.Identifier 5 12 (codes "g") ∷ node form.Absent 5 13 [] ∷ node form.Absent 5 13 []
    ∷ node form.ParameterList 5 13
    (node form.ParameterDeclaration 5 14
    (node form.Absent 5 14 [] ∷ node form.IdentifierList 5 14 (leaf form.Identifier 5 14 (codes "x") ∷ []) ∷ node form.Absent 5 18 []
    ∷ node form.SubtypeIndication 5 18 (node form.SelectedName 5 18 (leaf form.Identifier 5 18 (codes "t") ∷ []) ∷ node form.Absent 5 19 [] ∷ []) ∷ []) ∷ [])
    ∷ node form.SelectedName 5 28 (leaf form.Identifier 5 28 (codes "t") ∷ []) ∷ []) ∷ [])
    ∷ node form.Closing 6 5 (node form.ClosingWord 6 5 [] ∷ node form.Absent 6 12 [] ∷ []) ∷ []) ∷ [])

abbrev pub units_1 : Forest Form
units_1 =
    node form.DesignUnit 7 1
    (node form.ContextClause 7 1 []
    ∷ node form.PackageBody 7 9
    (leaf form.Identifier 7 14 (codes "p")
    ∷ node form.DeclarativePart 8 3
    (node form.FunctionBody 8 3
    (node form.Absent 8 3 [] ∷ leaf form.Identifier 8 12 (codes "g") ∷ node form.Absent 8 13 [] ∷ node form.Absent 8 13 []
    ∷ node form.ParameterList 8 13
    (node form.ParameterDeclaration 8 14
    (node form.Absent 8 14 [] ∷ node form.IdentifierList 8 14 (leaf form.Identifier 8 14 (codes "x") ∷ []) ∷ node form.Absent 8 18 []
    ∷ node form.SubtypeIndication 8 18 (node form.SelectedName 8 18 (leaf form.Identifier 8 18 (codes "t") ∷ []) ∷ node form.Absent 8 19 [] ∷ []) ∷ []) ∷ [])
    ∷ node form.SelectedName 8 28 (leaf form.Identifier 8 28 (codes "t") ∷ []) ∷ node form.DeclarativePart 8 33 []
    ∷ node form.Statements 8 39
    (node form.ReturnStatement 8 39
    (node form.Name 8 46
    (leaf form.Identifier 8 46 (codes "f") ∷ node form.Arguments 8 47 (node form.Name 8 48 (leaf form.Identifier 8 48 (codes "x") ∷ []) ∷ []) ∷ []) ∷ []) ∷ [])
    ∷ node form.FunctionClosing 8 55 (node form.Absent 8 55 [] ∷ node form.Absent 8 55 [] ∷ []) ∷ []) ∷ [])
    ∷ node form.Closing 9 5 (node form.ClosingWord 9 5 [] ∷ node form.Absent 9 17 [] ∷ []) ∷ []) ∷ [])

abbrev pub units_2 : Forest Form
units_2 =
    node form.DesignUnit 10 1
    (node form.ContextClause 10 1 []
    ∷ node form.PackageDeclaration 10 1
    (leaf form.Identifier 10 9 (codes "b") ∷ node form.Absent 11 3 []
    ∷ node form.DeclarativePart 11 3
    (node form.FunctionDeclaration 11 3
    (node form.Absent 11 3 [] ∷ leaf form.Identifier 11 12 (codes "f") ∷ node form.Absent 11 13 [] ∷ node form.Absent 11 13 []
    ∷ node form.ParameterList 11 13
    (node form.ParameterDeclaration 11 14
    (node form.Absent 11 14 [] ∷ node form.IdentifierList 11 14 (leaf form.Identifier 11 14 (codes "x") ∷ []) ∷ node form.Absent 11 18 []
    ∷ node form.SubtypeIndication 11 18 (node form.SelectedName 11 18 (leaf form.Identifier 11 18 (codes "integer") ∷ []) ∷ node form.Absent 11 25 [] ∷ []) ∷ []) ∷ [])
    ∷ node form.SelectedName 11 34 (leaf form.Identifier 11 34 (codes "integer") ∷ []) ∷ [])
    ∷ node form.FunctionDeclaration 12 3
    (node form.Absent 12 3 [] ∷ leaf form.Identifier 12 12 (codes "f") ∷ node form.Absent 12 13 [] ∷ node form.Absent 12 13 []
    ∷ node form.ParameterList 12 13
    (node form.ParameterDeclaration 12 14
    (node form.Absent 12 14 [] ∷ node form.IdentifierList 12 14 (leaf form.Identifier 12 14 (codes "x") ∷ []) ∷ node form.Absent 12 18 []
    ∷ node form.SubtypeIndication 12 18 (node form.SelectedName 12 18 (leaf form.Identifier 12 18 (codes "bit") ∷ []) ∷ node form.Absent 12 21 [] ∷ []) ∷ []) ∷ [])
    ∷ node form.SelectedName 12 30 (leaf form.Identifier 12 30 (codes "bit") ∷ []) ∷ []) ∷ [])
    ∷ node form.Closing 13 5 (node form.ClosingWord 13 5 [] ∷ node form.Absent 13 12 [] ∷ []) ∷ []) ∷ [])

abbrev pub units_3 : Forest Form
units_3 =
    node form.DesignUnit 14 1
    (node form.ContextClause 14 1 []
    ∷ node form.PackageBody 14 9
    (leaf form.Identifier 14 14 (codes "b")
    ∷ node form.DeclarativePart 15 3
    (node form.FunctionBody 15 3
    (node form.Absent 15 3 [] ∷ leaf form.Identifier 15 12 (codes "f") ∷ node form.Absent 15 13 [] ∷ node form.Absent 15 13 []
    ∷ node form.ParameterList 15 13
    (node form.ParameterDeclaration 15 14
    (node form.Absent 15 14 [] ∷ node form.IdentifierList 15 14 (leaf form.Identifier 15 14 (codes "x") ∷ []) ∷ node form.Absent 15 18 []
    ∷ node form.SubtypeIndication 15 18 (node form.SelectedName 15 18 (leaf form.Identifier 15 18 (codes "integer") ∷ []) ∷ node form.Absent 15 25 [] ∷ []) ∷ []) ∷ [])
    ∷ node form.SelectedName 15 34 (leaf form.Identifier 15 34 (codes "integer") ∷ []) ∷ node form.DeclarativePart 15 45 []
    ∷ node form.Statements 15 51 (node form.ReturnStatement 15 51 (node form.Name 15 58 (leaf form.Identifier 15 58 (codes "x") ∷ []) ∷ []) ∷ [])
    ∷ node form.FunctionClosing 15 64 (node form.Absent 15 64 [] ∷ node form.Absent 15 64 [] ∷ []) ∷ [])
    ∷ node form.FunctionBody 16 3
    (node form.Absent 16 3 [] ∷ leaf form.Identifier 16 12 (codes "f") ∷ node form.Absent 16 13 [] ∷ node form.Absent 16 13 []
    ∷ node form.ParameterList 16 13
    (node form.ParameterDeclaration 16 14
    (node form.Absent 16 14 [] ∷ node form.IdentifierList 16 14 (leaf form.Identifier 16 14 (codes "x") ∷ []) ∷ node form.Absent 16 18 []
    ∷ node form.SubtypeIndication 16 18 (node form.SelectedName 16 18 (leaf form.Identifier 16 18 (codes "bit") ∷ []) ∷ node form.Absent 16 21 [] ∷ []) ∷ []) ∷ [])
    ∷ node form.SelectedName 16 30 (leaf form.Identifier 16 30 (codes "bit") ∷ []) ∷ node form.DeclarativePart 16 37 []
    ∷ node form.Statements 16 43 (node form.ReturnStatement 16 43 (node form.Name 16 50 (leaf form.Identifier 16 50 (codes "x") ∷ []) ∷ []) ∷ [])
    ∷ node form.FunctionClosing 16 56 (node form.Absent 16 56 [] ∷ node form.Absent 16 56 [] ∷ []) ∷ []) ∷ [])
    ∷ node form.Closing 17 5 (node form.ClosingWord 17 5 [] ∷ node form.Absent 17 17 [] ∷ []) ∷ []) ∷ [])

abbrev pub units_4 : Forest Form
units_4 =
    node form.DesignUnit 18 1
    (node form.ContextClause 18 1
    (node form.UseClause 18 1
    (node form.SelectedName 18 5 (leaf form.Identifier 18 5 (codes "work") ∷ leaf form.Identifier 18 10 (codes "b") ∷ node form.All 18 12 [] ∷ []) ∷ []) ∷ [])
    ∷ node form.PackageInstantiation 19 1
    (leaf form.Identifier 19 9 (codes "q")
    ∷ node form.SelectedName 19 18 (leaf form.Identifier 19 18 (codes "work") ∷ leaf form.Identifier 19 23 (codes "p") ∷ [])
    ∷ node form.GenericMap 19 25
    (node form.Association 19 38
    (node form.AssociationChoices 19 38 (node form.Name 19 38 (leaf form.Identifier 19 38 (codes "c") ∷ []) ∷ []) ∷ leaf form.Number 19 43 (codes "3") ∷ [])
    ∷ node form.Association 19 46
    (node form.AssociationChoices 19 46 (node form.Name 19 46 (leaf form.Identifier 19 46 (codes "t") ∷ []) ∷ [])
    ∷ node form.Name 19 51 (leaf form.Identifier 19 51 (codes "natural") ∷ []) ∷ []) ∷ []) ∷ []) ∷ [])

abbrev pub units_5 : Forest Form
units_5 =
    node form.DesignUnit 20 1
    (node form.ContextClause 20 1 []
    ∷ node form.EntityDeclaration 20 1
    (leaf form.Identifier 20 8 (codes "e") ∷ node form.Absent 21 1 [] ∷ node form.Absent 21 1 []
    ∷ node form.Closing 21 5 (node form.ClosingWord 21 5 [] ∷ node form.Absent 21 11 [] ∷ []) ∷ []) ∷ [])

abbrev pub units_6 : Forest Form
units_6 =
    node form.DesignUnit 22 1
    (node form.ContextClause 22 1 []
    ∷ node form.ArchitectureBody 22 1
    (leaf form.Identifier 22 14 (codes "a") ∷ leaf form.Identifier 22 19 (codes "e")
    ∷ node form.DeclarativePart 23 3
    (node form.SignalDeclaration 23 3
    (node form.IdentifierList 23 10 (leaf form.Identifier 23 10 (codes "s") ∷ [])
    ∷ node form.SubtypeIndication 23 14
    (node form.SelectedName 23 14
    (leaf form.Identifier 23 14 (codes "work") ∷ leaf form.Identifier 23 19 (codes "q") ∷ leaf form.Identifier 23 21 (codes "t") ∷ [])
    ∷ node form.Absent 23 23 [] ∷ [])
    ∷ node form.Name 23 26
    (leaf form.Identifier 23 26 (codes "work") ∷ node form.Selection 23 30 (leaf form.Identifier 23 31 (codes "q") ∷ [])
    ∷ node form.Selection 23 32 (leaf form.Identifier 23 33 (codes "f") ∷ [])
    ∷ node form.Arguments 23 34
    (node form.Name 23 35
    (leaf form.Identifier 23 35 (codes "work") ∷ node form.Selection 23 39 (leaf form.Identifier 23 40 (codes "q") ∷ [])
    ∷ node form.Selection 23 41 (leaf form.Identifier 23 42 (codes "g") ∷ [])
    ∷ node form.Arguments 23 43
    (node form.Name 23 44
    (leaf form.Identifier 23 44 (codes "work") ∷ node form.Selection 23 48 (leaf form.Identifier 23 49 (codes "q") ∷ [])
    ∷ node form.Selection 23 50 (leaf form.Identifier 23 51 (codes "d") ∷ []) ∷ []) ∷ []) ∷ []) ∷ []) ∷ []) ∷ [])
    ∷ node form.SignalDeclaration 24 3
    (node form.IdentifierList 24 10 (leaf form.Identifier 24 10 (codes "u") ∷ [])
    ∷ node form.SubtypeIndication 24 14
    (node form.SelectedName 24 14
    (leaf form.Identifier 24 14 (codes "work") ∷ leaf form.Identifier 24 19 (codes "q") ∷ leaf form.Identifier 24 21 (codes "r") ∷ [])
    ∷ node form.Absent 24 23 [] ∷ [])
    ∷ node form.Aggregate 24 26
    (node form.Association 24 27
    (node form.AssociationChoices 24 27 (node form.Name 24 27 (leaf form.Identifier 24 27 (codes "a") ∷ []) ∷ [])
    ∷ node form.Name 24 32 (leaf form.Identifier 24 32 (codes "s") ∷ []) ∷ [])
    ∷ node form.Association 24 35
    (node form.AssociationChoices 24 35 (node form.Name 24 35 (leaf form.Identifier 24 35 (codes "b") ∷ []) ∷ []) ∷ leaf form.Number 24 40 (codes "2") ∷ []) ∷ []) ∷ []) ∷ [])
    ∷ node form.StatementPart 26 1 [] ∷ node form.Closing 26 5 (node form.ClosingWord 26 5 [] ∷ node form.Absent 26 17 [] ∷ []) ∷ []) ∷ [])

abbrev pub units : Forest Form
units = side_by_side (units_0 ∷ units_1 ∷ units_2 ∷ units_3 ∷ units_4 ∷ units_5 ∷ units_6 ∷ [])
