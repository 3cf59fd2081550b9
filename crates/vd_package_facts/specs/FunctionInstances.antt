-- The tree of a design. Written by tools/resolved-trees from examples/worked/function_instances.vhd, which is of revision 2019:
--
-- entity f is
-- end entity;
-- architecture a of f is
--   type state is (idle, busy);
--   function greatest
--     generic (type t; function "<"(l, r : t) return boolean)
--     parameter (x, y : t) return t is
--   begin
--     if x < y then
--       return y;
--     end if;
--     return x;
--   end;
--   function imax is new greatest generic map (t => integer, "<" => "<");
--   function smax is new greatest generic map (t => state, "<" => "<");
--   signal i : integer := imax(3, 5);
--   signal s : state := smax(idle, busy);
-- begin
-- end architecture;
use Rattle.std.specs.Prelude.{List, [], ◌∷◌, Some, None, codes}
use Rattle.vd_declarations.specs.declared.classes.Class.TheVariants as class
use Rattle.vd_declarations.specs.declared.declarations.Declaration.{Declaration}
use Rattle.vd_forest.specs.Forest.{Forest}
use Rattle.vd_forms.specs.declared.form.Form.TheVariants as form
use Rattle.vd_resolved.specs.declared.node.Resolved.{Resolved}
use Rattle.vd_predefined.specs.Entries.{declared}
use Rattle.vd_predefined.specs.declared.numbers.TheConstants.{BOOLEAN, INTEGER}
use Rattle.vd_meaning_facts.specs.Trees.{node, plain, absent, of, leaf}
use Rattle.vd_trees.specs.declared.revision.Revision.TheVariants.{V2019}
use Rattle.vd_resolved.specs.Trees.{ResolvedTree}
use Rattle.vd_design_facts.specs.Designs.{designed, with_generics, generic_copy}

abbrev pub declarations : List Declaration
declarations =
    declared class.Entity (codes "f") None []
    ∷ declared class.Architecture (codes "a") None []
    ∷ declared class.EnumerationType (codes "state") None []
    ∷ declared class.EnumerationLiteral (codes "idle") (Some 465) []
    ∷ declared class.EnumerationLiteral (codes "busy") (Some 465) []
    ∷ declared class.Parameter (codes "l") (Some 465) []
    ∷ declared class.Parameter (codes "r") (Some 465) []
    ∷ declared class.Parameter (codes "l") (Some INTEGER) []
    ∷ declared class.Parameter (codes "r") (Some INTEGER) []
    ∷ declared class.PredefinedOperator (codes "\"=\"") (Some BOOLEAN) (468 ∷ 469 ∷ [])
    ∷ declared class.PredefinedOperator (codes "\"/=\"") (Some BOOLEAN) (468 ∷ 469 ∷ [])
    ∷ declared class.PredefinedOperator (codes "\"<\"") (Some BOOLEAN) (468 ∷ 469 ∷ [])
    ∷ declared class.PredefinedOperator (codes "\"<=\"") (Some BOOLEAN) (468 ∷ 469 ∷ [])
    ∷ declared class.PredefinedOperator (codes "\">\"") (Some BOOLEAN) (468 ∷ 469 ∷ [])
    ∷ declared class.PredefinedOperator (codes "\">=\"") (Some BOOLEAN) (468 ∷ 469 ∷ [])
    ∷ declared class.GenericType (codes "t") None []
    ∷ declared class.Parameter (codes "l") (Some 478) []
    ∷ declared class.Parameter (codes "r") (Some 478) []
    ∷ declared class.Parameter (codes "l") (Some INTEGER) []
    ∷ declared class.Parameter (codes "r") (Some INTEGER) []
    ∷ declared class.PredefinedOperator (codes "\"=\"") (Some BOOLEAN) (479 ∷ 480 ∷ [])
    ∷ declared class.PredefinedOperator (codes "\"/=\"") (Some BOOLEAN) (479 ∷ 480 ∷ [])
    ∷ declared class.Parameter (codes "l") (Some 478) []
    ∷ declared class.Parameter (codes "r") (Some 478) []
    ∷ declared class.GenericFunction (codes "\"<\"") (Some BOOLEAN) (485 ∷ 486 ∷ [])
    ∷ declared class.Parameter (codes "x") (Some 478) []
    ∷ declared class.Parameter (codes "y") (Some 478) []
    ∷ with_generics (478 ∷ 487 ∷ []) (declared class.UninstantiatedFunction (codes "greatest") (Some 478) (488 ∷ 489 ∷ []))
    ∷ generic_copy (declared (class.Subtype INTEGER) (codes "t") (Some INTEGER) [])
    ∷ generic_copy (declared (class.ActualFunction 237) (codes "\"<\"") (Some BOOLEAN) (231 ∷ 232 ∷ []))
    ∷ declared class.Parameter (codes "x") (Some INTEGER) []
    ∷ declared class.Parameter (codes "y") (Some INTEGER) []
    ∷ with_generics (491 ∷ 492 ∷ []) (declared class.Function (codes "imax") (Some INTEGER) (493 ∷ 494 ∷ []))
    ∷ generic_copy (declared (class.Subtype 465) (codes "t") (Some 465) [])
    ∷ generic_copy (declared (class.ActualFunction 474) (codes "\"<\"") (Some BOOLEAN) (468 ∷ 469 ∷ []))
    ∷ declared class.Parameter (codes "x") (Some 465) []
    ∷ declared class.Parameter (codes "y") (Some 465) []
    ∷ with_generics (496 ∷ 497 ∷ []) (declared class.Function (codes "smax") (Some 465) (498 ∷ 499 ∷ []))
    ∷ declared class.Signal (codes "i") (Some INTEGER) []
    ∷ declared class.Signal (codes "s") (Some 465) [] ∷ []

abbrev pub entity_f : Forest Resolved
entity_f =
    plain form.DesignUnit
    (plain form.ContextClause []
    ∷ plain form.EntityDeclaration
    (node form.Identifier (Some 463) None 0 (codes "f") [] ∷ absent ∷ absent ∷ plain form.Closing (plain form.ClosingWord [] ∷ absent ∷ []) ∷ []) ∷ [])

abbrev pub architecture_a_of_f : Forest Resolved
architecture_a_of_f =
    plain form.DesignUnit
    (plain form.ContextClause []
    ∷ plain form.ArchitectureBody
    (node form.Identifier (Some 464) None 0 (codes "a") [] ∷ node form.Identifier (Some 463) None 0 (codes "f") []
    ∷ plain form.DeclarativePart
    (node form.TypeDeclaration (Some 465) None 0 []
    (node form.Identifier (Some 465) None 0 (codes "state") []
    ∷ plain form.EnumerationType (node form.Identifier (Some 466) None 0 (codes "idle") [] ∷ node form.Identifier (Some 467) None 0 (codes "busy") [] ∷ []) ∷ [])
    ∷ node form.FunctionBody (Some 490) None 0 []
    (absent ∷ node form.Identifier (Some 490) None 0 (codes "greatest") []
    ∷ plain form.GenericClause
    (node form.GenericType (Some 478) None 0 [] (node form.Identifier (Some 478) None 0 (codes "t") [] ∷ [])
    ∷ node form.GenericFunction (Some 487) None 0 []
    (absent ∷ node form.Quoted (Some 487) None 0 (codes "<") []
    ∷ plain form.ParameterList
    (plain form.ParameterDeclaration
    (absent
    ∷ plain form.IdentifierList (node form.Identifier (Some 485) None 0 (codes "l") [] ∷ node form.Identifier (Some 486) None 0 (codes "r") [] ∷ [])
    ∷ absent ∷ plain form.SubtypeIndication (node form.SelectedName (Some 478) None 0 [] (leaf form.Identifier (codes "t") ∷ []) ∷ absent ∷ []) ∷ []) ∷ [])
    ∷ node form.SelectedName (Some BOOLEAN) None 0 [] (leaf form.Identifier (codes "boolean") ∷ []) ∷ absent ∷ []) ∷ [])
    ∷ plain form.ParameterWord []
    ∷ plain form.ParameterList
    (plain form.ParameterDeclaration
    (absent
    ∷ plain form.IdentifierList (node form.Identifier (Some 488) None 0 (codes "x") [] ∷ node form.Identifier (Some 489) None 0 (codes "y") [] ∷ [])
    ∷ absent ∷ plain form.SubtypeIndication (node form.SelectedName (Some 478) None 0 [] (leaf form.Identifier (codes "t") ∷ []) ∷ absent ∷ []) ∷ []) ∷ [])
    ∷ node form.SelectedName (Some 478) None 0 [] (leaf form.Identifier (codes "t") ∷ []) ∷ plain form.DeclarativePart []
    ∷ plain form.Statements
    (plain form.IfStatement
    (node form.Less (Some 487) (Some BOOLEAN) 0 []
    (of form.Name 478 (node form.Identifier (Some 488) (Some 478) 0 (codes "x") [] ∷ [])
    ∷ of form.Name 478 (node form.Identifier (Some 489) (Some 478) 0 (codes "y") [] ∷ []) ∷ [])
    ∷ plain form.Statements (plain form.ReturnStatement (of form.Name 478 (node form.Identifier (Some 489) (Some 478) 0 (codes "y") [] ∷ []) ∷ []) ∷ [])
    ∷ plain form.ElsifBranches [] ∷ absent ∷ absent ∷ [])
    ∷ plain form.ReturnStatement (of form.Name 478 (node form.Identifier (Some 488) (Some 478) 0 (codes "x") [] ∷ []) ∷ []) ∷ [])
    ∷ plain form.FunctionClosing (absent ∷ absent ∷ []) ∷ [])
    ∷ node form.FunctionInstantiation (Some 495) None 0 []
    (absent ∷ node form.Identifier (Some 495) None 0 (codes "imax") []
    ∷ node form.SelectedName (Some 490) None 0 [] (leaf form.Identifier (codes "greatest") ∷ [])
    ∷ plain form.GenericMap
    (plain form.Association
    (plain form.AssociationChoices (node form.Name (Some 478) None 0 [] (leaf form.Identifier (codes "t") ∷ []) ∷ [])
    ∷ plain form.Name (node form.Identifier (Some INTEGER) None 0 (codes "integer") [] ∷ []) ∷ [])
    ∷ plain form.Association
    (plain form.AssociationChoices (node form.Quoted (Some 487) None 0 (codes "<") [] ∷ []) ∷ node form.Quoted (Some 237) None 0 (codes "<") [] ∷ []) ∷ []) ∷ [])
    ∷ node form.FunctionInstantiation (Some 500) None 0 []
    (absent ∷ node form.Identifier (Some 500) None 0 (codes "smax") []
    ∷ node form.SelectedName (Some 490) None 0 [] (leaf form.Identifier (codes "greatest") ∷ [])
    ∷ plain form.GenericMap
    (plain form.Association
    (plain form.AssociationChoices (node form.Name (Some 478) None 0 [] (leaf form.Identifier (codes "t") ∷ []) ∷ [])
    ∷ plain form.Name (node form.Identifier (Some 465) None 0 (codes "state") [] ∷ []) ∷ [])
    ∷ plain form.Association
    (plain form.AssociationChoices (node form.Quoted (Some 487) None 0 (codes "<") [] ∷ []) ∷ node form.Quoted (Some 474) None 0 (codes "<") [] ∷ []) ∷ []) ∷ [])
    ∷ plain form.SignalDeclaration
    (plain form.IdentifierList (node form.Identifier (Some 501) None 0 (codes "i") [] ∷ [])
    ∷ plain form.SubtypeIndication (node form.SelectedName (Some INTEGER) None 0 [] (leaf form.Identifier (codes "integer") ∷ []) ∷ absent ∷ [])
    ∷ of form.Name INTEGER
    (node form.Identifier (Some 495) None 0 (codes "imax") []
    ∷ node form.Arguments (Some 495) (Some INTEGER) 0 []
    (node form.Number None (Some INTEGER) 0 (codes "3") [] ∷ node form.Number None (Some INTEGER) 0 (codes "5") [] ∷ []) ∷ []) ∷ [])
    ∷ plain form.SignalDeclaration
    (plain form.IdentifierList (node form.Identifier (Some 502) None 0 (codes "s") [] ∷ [])
    ∷ plain form.SubtypeIndication (node form.SelectedName (Some 465) None 0 [] (leaf form.Identifier (codes "state") ∷ []) ∷ absent ∷ [])
    ∷ of form.Name 465
    (node form.Identifier (Some 500) None 0 (codes "smax") []
    ∷ node form.Arguments (Some 500) (Some 465) 0 []
    (of form.Name 465 (node form.Identifier (Some 466) (Some 465) 0 (codes "idle") [] ∷ [])
    ∷ of form.Name 465 (node form.Identifier (Some 467) (Some 465) 1 (codes "busy") [] ∷ []) ∷ []) ∷ []) ∷ []) ∷ [])
    ∷ plain form.StatementPart [] ∷ plain form.Closing (plain form.ClosingWord [] ∷ absent ∷ []) ∷ []) ∷ [])

abbrev pub design : ResolvedTree
design = designed V2019 (entity_f ∷ architecture_a_of_f ∷ []) declarations
