-- The syntax tree of a design. Written by tools/syntax-trees from examples/worked/function_instances.vhd, which is of revision 2019:
--
-- entity f is
-- end entity;
-- architecture a of f is
--   type state is (idle, busy);
--   function greatest
--     generic (type t; function "<"(l, r : t) return boolean)
--     parameter (x, y : t) return t is
--   begin
--     if x < y then
--       return y;
--     end if;
--     return x;
--   end;
--   function imax is new greatest generic map (t => integer, "<" => "<");
--   function smax is new greatest generic map (t => state, "<" => "<");
--   signal i : integer := imax(3, 5);
--   signal s : state := smax(idle, busy);
-- begin
-- end architecture;
use Rattle.std.specs.Prelude.{[], ◌∷◌, codes}
use Rattle.vd_forest.specs.Forest.{Forest}
use Rattle.vd_forms.specs.declared.form.Form.{Form}
use Rattle.vd_forms.specs.declared.form.Form.TheVariants as form
use Rattle.vd_named_designs.specs.Trees.{node, leaf, side_by_side}

abbrev pub units_0 : Forest Form
units_0 =
    node form.DesignUnit 1 1
    (node form.ContextClause 1 1 []
    ∷ node form.EntityDeclaration 1 1
    (leaf form.Identifier 1 8 (codes "f") ∷ node form.Absent 2 1 [] ∷ node form.Absent 2 1 []
    ∷ node form.Closing 2 5 (node form.ClosingWord 2 5 [] ∷ node form.Absent 2 11 [] ∷ []) ∷ []) ∷ [])

abbrev pub units_1 : Forest Form
units_1 =
    node form.DesignUnit 3 1
    (node form.ContextClause 3 1 []
    ∷ node form.ArchitectureBody 3 1
    (leaf form.Identifier 3 14 (codes "a") ∷ leaf form.Identifier 3 19 (codes "f")
    ∷ node form.DeclarativePart 4 3
    (node form.TypeDeclaration 4 3
    (leaf form.Identifier 4 8 (codes "state")
    ∷ node form.EnumerationType 4 17 (leaf form.Identifier 4 18 (codes "idle") ∷ leaf form.Identifier 4 24 (codes "busy") ∷ []) ∷ [])
    ∷ node form.FunctionBody 5 3
    (node form.Absent 5 3 [] ∷ leaf form.Identifier 5 12 (codes "greatest")
    ∷ node form.GenericClause 6 5
    (node form.GenericType 6 14 (leaf form.Identifier 6 19 (codes "t") ∷ [])
    ∷ node form.GenericFunction 6 22
    (node form.Absent 6 22 [] ∷ leaf form.Quoted 6 31 (codes "<")
    ∷ node form.ParameterList 6 34
    (node form.ParameterDeclaration 6 35
    (node form.Absent 6 35 [] ∷ node form.IdentifierList 6 35 (leaf form.Identifier 6 35 (codes "l") ∷ leaf form.Identifier 6 38 (codes "r") ∷ [])
    ∷ node form.Absent 6 42 []
    ∷ node form.SubtypeIndication 6 42 (node form.SelectedName 6 42 (leaf form.Identifier 6 42 (codes "t") ∷ []) ∷ node form.Absent 6 43 [] ∷ []) ∷ []) ∷ [])
    ∷ node form.SelectedName 6 52 (leaf form.Identifier 6 52 (codes "boolean") ∷ []) ∷ node form.Absent 6 59 [] ∷ []) ∷ [])
    ∷ node form.ParameterWord 7 5 []
    ∷ node form.ParameterList 7 15
    (node form.ParameterDeclaration 7 16
    (node form.Absent 7 16 [] ∷ node form.IdentifierList 7 16 (leaf form.Identifier 7 16 (codes "x") ∷ leaf form.Identifier 7 19 (codes "y") ∷ [])
    ∷ node form.Absent 7 23 []
    ∷ node form.SubtypeIndication 7 23 (node form.SelectedName 7 23 (leaf form.Identifier 7 23 (codes "t") ∷ []) ∷ node form.Absent 7 24 [] ∷ []) ∷ []) ∷ [])
    ∷ node form.SelectedName 7 33 (leaf form.Identifier 7 33 (codes "t") ∷ []) ∷ node form.DeclarativePart 8 3 []
    ∷ node form.Statements 9 5
    (node form.IfStatement 9 5
    (node form.Less 9 8
    (node form.Name 9 8 (leaf form.Identifier 9 8 (codes "x") ∷ []) ∷ node form.Name 9 12 (leaf form.Identifier 9 12 (codes "y") ∷ []) ∷ [])
    ∷ node form.Statements 10 7 (node form.ReturnStatement 10 7 (node form.Name 10 14 (leaf form.Identifier 10 14 (codes "y") ∷ []) ∷ []) ∷ [])
    ∷ node form.ElsifBranches 11 5 [] ∷ node form.Absent 11 5 [] ∷ node form.Absent 11 11 [] ∷ [])
    ∷ node form.ReturnStatement 12 5 (node form.Name 12 12 (leaf form.Identifier 12 12 (codes "x") ∷ []) ∷ []) ∷ [])
    ∷ node form.FunctionClosing 13 6 (node form.Absent 13 6 [] ∷ node form.Absent 13 6 [] ∷ []) ∷ [])
    ∷ node form.FunctionInstantiation 14 3
    (node form.Absent 14 3 [] ∷ leaf form.Identifier 14 12 (codes "imax")
    ∷ node form.SelectedName 14 24 (leaf form.Identifier 14 24 (codes "greatest") ∷ [])
    ∷ node form.GenericMap 14 33
    (node form.Association 14 46
    (node form.AssociationChoices 14 46 (node form.Name 14 46 (leaf form.Identifier 14 46 (codes "t") ∷ []) ∷ [])
    ∷ node form.Name 14 51 (leaf form.Identifier 14 51 (codes "integer") ∷ []) ∷ [])
    ∷ node form.Association 14 60 (node form.AssociationChoices 14 60 (leaf form.Quoted 14 60 (codes "<") ∷ []) ∷ leaf form.Quoted 14 67 (codes "<") ∷ []) ∷ []) ∷ [])
    ∷ node form.FunctionInstantiation 15 3
    (node form.Absent 15 3 [] ∷ leaf form.Identifier 15 12 (codes "smax")
    ∷ node form.SelectedName 15 24 (leaf form.Identifier 15 24 (codes "greatest") ∷ [])
    ∷ node form.GenericMap 15 33
    (node form.Association 15 46
    (node form.AssociationChoices 15 46 (node form.Name 15 46 (leaf form.Identifier 15 46 (codes "t") ∷ []) ∷ [])
    ∷ node form.Name 15 51 (leaf form.Identifier 15 51 (codes "state") ∷ []) ∷ [])
    ∷ node form.Association 15 58 (node form.AssociationChoices 15 58 (leaf form.Quoted 15 58 (codes "<") ∷ []) ∷ leaf form.Quoted 15 65 (codes "<") ∷ []) ∷ []) ∷ [])
    ∷ node form.SignalDeclaration 16 3
    (node form.IdentifierList 16 10 (leaf form.Identifier 16 10 (codes "i") ∷ [])
    ∷ node form.SubtypeIndication 16 14 (node form.SelectedName 16 14 (leaf form.Identifier 16 14 (codes "integer") ∷ []) ∷ node form.Absent 16 22 [] ∷ [])
    ∷ node form.Name 16 25
    (leaf form.Identifier 16 25 (codes "imax") ∷ node form.Arguments 16 29 (leaf form.Number 16 30 (codes "3") ∷ leaf form.Number 16 33 (codes "5") ∷ []) ∷ []) ∷ [])
    ∷ node form.SignalDeclaration 17 3
    (node form.IdentifierList 17 10 (leaf form.Identifier 17 10 (codes "s") ∷ [])
    ∷ node form.SubtypeIndication 17 14 (node form.SelectedName 17 14 (leaf form.Identifier 17 14 (codes "state") ∷ []) ∷ node form.Absent 17 20 [] ∷ [])
    ∷ node form.Name 17 23
    (leaf form.Identifier 17 23 (codes "smax")
    ∷ node form.Arguments 17 27
    (node form.Name 17 28 (leaf form.Identifier 17 28 (codes "idle") ∷ []) ∷ node form.Name 17 34 (leaf form.Identifier 17 34 (codes "busy") ∷ []) ∷ []) ∷ []) ∷ []) ∷ [])
    ∷ node form.StatementPart 19 1 [] ∷ node form.Closing 19 5 (node form.ClosingWord 19 5 [] ∷ node form.Absent 19 17 [] ∷ []) ∷ []) ∷ [])

abbrev pub units : Forest Form
units = side_by_side (units_0 ∷ units_1 ∷ [])
