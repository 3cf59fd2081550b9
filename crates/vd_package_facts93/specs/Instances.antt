-- The tree of a design. Written by tools/resolved-trees from examples/worked/instances_93.vhd, which is of revision 1993:
--
-- package bits is
--   subtype t is bit;
--   constant start : t := '0';
--   type pair is record
--     a : t;
--     b : t;
--   end record;
--   constant empty : pair := (start, start);
--   function turned(p : pair) return pair;
-- end package bits;
-- package body bits is
--   function turned(p : pair) return pair is
--   begin
--     return (p.b, p.a);
--   end;
-- end package body bits;
-- package numbers is
--   subtype t_2 is integer;
--   constant start_2 : t_2 := 3;
--   type pair is record
--     a : t_2;
--     b : t_2;
--   end record;
--   constant empty : pair := (start_2, start_2);
--   function turned_2(p : pair) return pair;
-- end package numbers;
-- package body numbers is
--   function turned_2(p : pair) return pair is
--   begin
--     return (p.b, p.a);
--   end;
-- end package body numbers;
-- entity g is
-- end entity g;
-- architecture a of g is
--   signal x : work.bits.pair := ('0', '1');
--   signal y : work.numbers.pair := work.numbers.empty;
-- begin
--   process is
--   begin
--     x <= work.bits.turned(x);
--     y <= work.numbers.turned_2((7, y.a));
--     wait;
--   end process;
-- end architecture a;
use Rattle.std.specs.Prelude.{List, [], ◌∷◌, Some, None, codes}
use Rattle.vd_declarations.specs.declared.classes.Class.TheVariants as class
use Rattle.vd_declarations.specs.declared.declarations.Declaration.{Declaration}
use Rattle.vd_forest.specs.Forest.{Forest}
use Rattle.vd_forms.specs.declared.form.Form.TheVariants as form
use Rattle.vd_resolved.specs.declared.node.Resolved.{Resolved}
use Rattle.vd_predefined.specs.Entries.{declared}
use Rattle.vd_predefined.specs.declared.numbers.TheConstants.{BOOLEAN, BIT, INTEGER}
use Rattle.vd_meaning_facts.specs.Trees.{node, plain, absent, of, leaf}
use Rattle.vd_trees.specs.declared.revision.Revision.TheVariants.{V1993}
use Rattle.vd_resolved.specs.Trees.{ResolvedTree}
use Rattle.vd_design_facts.specs.Designs.{designed}

abbrev pub declarations : List Declaration
declarations =
    declared class.Package (codes "bits") None []
    ∷ declared (class.Subtype BIT) (codes "t") (Some BIT) []
    ∷ declared class.Constant (codes "start") (Some BIT) []
    ∷ declared class.RecordType (codes "pair") None (391 ∷ 392 ∷ [])
    ∷ declared class.RecordElement (codes "a") (Some BIT) []
    ∷ declared class.RecordElement (codes "b") (Some BIT) []
    ∷ declared class.Parameter (codes "l") (Some 390) []
    ∷ declared class.Parameter (codes "r") (Some 390) []
    ∷ declared class.Parameter (codes "l") (Some INTEGER) []
    ∷ declared class.Parameter (codes "r") (Some INTEGER) []
    ∷ declared class.PredefinedOperator (codes "\"=\"") (Some BOOLEAN) (393 ∷ 394 ∷ [])
    ∷ declared class.PredefinedOperator (codes "\"/=\"") (Some BOOLEAN) (393 ∷ 394 ∷ [])
    ∷ declared class.Constant (codes "empty") (Some 390) []
    ∷ declared class.Parameter (codes "p") (Some 390) []
    ∷ declared class.Function (codes "turned") (Some 390) (400 ∷ [])
    ∷ declared class.Package (codes "numbers") None []
    ∷ declared (class.Subtype INTEGER) (codes "t_2") (Some INTEGER) []
    ∷ declared class.Constant (codes "start_2") (Some INTEGER) []
    ∷ declared class.RecordType (codes "pair") None (406 ∷ 407 ∷ [])
    ∷ declared class.RecordElement (codes "a") (Some INTEGER) []
    ∷ declared class.RecordElement (codes "b") (Some INTEGER) []
    ∷ declared class.Parameter (codes "l") (Some 405) []
    ∷ declared class.Parameter (codes "r") (Some 405) []
    ∷ declared class.Parameter (codes "l") (Some INTEGER) []
    ∷ declared class.Parameter (codes "r") (Some INTEGER) []
    ∷ declared class.PredefinedOperator (codes "\"=\"") (Some BOOLEAN) (408 ∷ 409 ∷ [])
    ∷ declared class.PredefinedOperator (codes "\"/=\"") (Some BOOLEAN) (408 ∷ 409 ∷ [])
    ∷ declared class.Constant (codes "empty") (Some 405) []
    ∷ declared class.Parameter (codes "p") (Some 405) []
    ∷ declared class.Function (codes "turned_2") (Some 405) (415 ∷ [])
    ∷ declared class.Entity (codes "g") None []
    ∷ declared class.Architecture (codes "a") None []
    ∷ declared class.Signal (codes "x") (Some 390) []
    ∷ declared class.Signal (codes "y") (Some 405) [] ∷ []

abbrev pub package_bits : Forest Resolved
package_bits =
    plain form.DesignUnit
    (plain form.ContextClause []
    ∷ plain form.PackageDeclaration
    (node form.Identifier (Some 387) None 0 (codes "bits") [] ∷ absent
    ∷ plain form.DeclarativePart
    (node form.SubtypeDeclaration (Some 388) None 0 []
    (node form.Identifier (Some 388) None 0 (codes "t") []
    ∷ plain form.SubtypeIndication (node form.SelectedName (Some BIT) None 0 [] (leaf form.Identifier (codes "bit") ∷ []) ∷ absent ∷ []) ∷ [])
    ∷ plain form.ConstantDeclaration
    (plain form.IdentifierList (node form.Identifier (Some 389) None 0 (codes "start") [] ∷ [])
    ∷ plain form.SubtypeIndication (node form.SelectedName (Some 388) None 0 [] (leaf form.Identifier (codes "t") ∷ []) ∷ absent ∷ [])
    ∷ node form.Letter (Some 9) (Some BIT) 0 (codes "0") [] ∷ [])
    ∷ node form.TypeDeclaration (Some 390) None 0 []
    (node form.Identifier (Some 390) None 0 (codes "pair") []
    ∷ plain form.RecordType
    (plain form.RecordElements
    (plain form.RecordElement
    (plain form.IdentifierList (node form.Identifier (Some 391) None 0 (codes "a") [] ∷ [])
    ∷ plain form.SubtypeIndication (node form.SelectedName (Some 388) None 0 [] (leaf form.Identifier (codes "t") ∷ []) ∷ absent ∷ []) ∷ [])
    ∷ plain form.RecordElement
    (plain form.IdentifierList (node form.Identifier (Some 392) None 0 (codes "b") [] ∷ [])
    ∷ plain form.SubtypeIndication (node form.SelectedName (Some 388) None 0 [] (leaf form.Identifier (codes "t") ∷ []) ∷ absent ∷ []) ∷ []) ∷ [])
    ∷ absent ∷ []) ∷ [])
    ∷ plain form.ConstantDeclaration
    (plain form.IdentifierList (node form.Identifier (Some 399) None 0 (codes "empty") [] ∷ [])
    ∷ plain form.SubtypeIndication (node form.SelectedName (Some 390) None 0 [] (leaf form.Identifier (codes "pair") ∷ []) ∷ absent ∷ [])
    ∷ of form.Aggregate 390
    (of form.Name BIT (node form.Identifier (Some 389) (Some BIT) 0 (codes "start") [] ∷ [])
    ∷ of form.Name BIT (node form.Identifier (Some 389) (Some BIT) 0 (codes "start") [] ∷ []) ∷ []) ∷ [])
    ∷ node form.FunctionDeclaration (Some 401) None 0 []
    (absent ∷ node form.Identifier (Some 401) None 0 (codes "turned") [] ∷ absent ∷ absent
    ∷ plain form.ParameterList
    (plain form.ParameterDeclaration
    (absent ∷ plain form.IdentifierList (node form.Identifier (Some 400) None 0 (codes "p") [] ∷ []) ∷ absent
    ∷ plain form.SubtypeIndication (node form.SelectedName (Some 390) None 0 [] (leaf form.Identifier (codes "pair") ∷ []) ∷ absent ∷ []) ∷ []) ∷ [])
    ∷ node form.SelectedName (Some 390) None 0 [] (leaf form.Identifier (codes "pair") ∷ []) ∷ []) ∷ [])
    ∷ plain form.Closing (plain form.ClosingWord [] ∷ leaf form.Identifier (codes "bits") ∷ []) ∷ []) ∷ [])

abbrev pub body_of_bits : Forest Resolved
body_of_bits =
    plain form.DesignUnit
    (plain form.ContextClause []
    ∷ plain form.PackageBody
    (node form.Identifier (Some 387) None 0 (codes "bits") []
    ∷ plain form.DeclarativePart
    (node form.FunctionBody (Some 401) None 0 []
    (absent ∷ node form.Identifier (Some 401) None 0 (codes "turned") [] ∷ absent ∷ absent
    ∷ plain form.ParameterList
    (plain form.ParameterDeclaration
    (absent ∷ plain form.IdentifierList (node form.Identifier (Some 400) None 0 (codes "p") [] ∷ []) ∷ absent
    ∷ plain form.SubtypeIndication (node form.SelectedName (Some 390) None 0 [] (leaf form.Identifier (codes "pair") ∷ []) ∷ absent ∷ []) ∷ []) ∷ [])
    ∷ node form.SelectedName (Some 390) None 0 [] (leaf form.Identifier (codes "pair") ∷ []) ∷ plain form.DeclarativePart []
    ∷ plain form.Statements
    (plain form.ReturnStatement
    (of form.Aggregate 390
    (of form.Name BIT
    (node form.Identifier (Some 400) (Some 390) 0 (codes "p") [] ∷ node form.Selection (Some 392) (Some BIT) 1 [] (leaf form.Identifier (codes "b") ∷ []) ∷ [])
    ∷ of form.Name BIT
    (node form.Identifier (Some 400) (Some 390) 0 (codes "p") [] ∷ node form.Selection (Some 391) (Some BIT) 0 [] (leaf form.Identifier (codes "a") ∷ []) ∷ []) ∷ []) ∷ []) ∷ [])
    ∷ plain form.FunctionClosing (absent ∷ absent ∷ []) ∷ []) ∷ [])
    ∷ plain form.Closing (plain form.ClosingWord [] ∷ leaf form.Identifier (codes "bits") ∷ []) ∷ []) ∷ [])

abbrev pub package_numbers : Forest Resolved
package_numbers =
    plain form.DesignUnit
    (plain form.ContextClause []
    ∷ plain form.PackageDeclaration
    (node form.Identifier (Some 402) None 0 (codes "numbers") [] ∷ absent
    ∷ plain form.DeclarativePart
    (node form.SubtypeDeclaration (Some 403) None 0 []
    (node form.Identifier (Some 403) None 0 (codes "t_2") []
    ∷ plain form.SubtypeIndication (node form.SelectedName (Some INTEGER) None 0 [] (leaf form.Identifier (codes "integer") ∷ []) ∷ absent ∷ []) ∷ [])
    ∷ plain form.ConstantDeclaration
    (plain form.IdentifierList (node form.Identifier (Some 404) None 0 (codes "start_2") [] ∷ [])
    ∷ plain form.SubtypeIndication (node form.SelectedName (Some 403) None 0 [] (leaf form.Identifier (codes "t_2") ∷ []) ∷ absent ∷ [])
    ∷ node form.Number None (Some INTEGER) 0 (codes "3") [] ∷ [])
    ∷ node form.TypeDeclaration (Some 405) None 0 []
    (node form.Identifier (Some 405) None 0 (codes "pair") []
    ∷ plain form.RecordType
    (plain form.RecordElements
    (plain form.RecordElement
    (plain form.IdentifierList (node form.Identifier (Some 406) None 0 (codes "a") [] ∷ [])
    ∷ plain form.SubtypeIndication (node form.SelectedName (Some 403) None 0 [] (leaf form.Identifier (codes "t_2") ∷ []) ∷ absent ∷ []) ∷ [])
    ∷ plain form.RecordElement
    (plain form.IdentifierList (node form.Identifier (Some 407) None 0 (codes "b") [] ∷ [])
    ∷ plain form.SubtypeIndication (node form.SelectedName (Some 403) None 0 [] (leaf form.Identifier (codes "t_2") ∷ []) ∷ absent ∷ []) ∷ []) ∷ [])
    ∷ absent ∷ []) ∷ [])
    ∷ plain form.ConstantDeclaration
    (plain form.IdentifierList (node form.Identifier (Some 414) None 0 (codes "empty") [] ∷ [])
    ∷ plain form.SubtypeIndication (node form.SelectedName (Some 405) None 0 [] (leaf form.Identifier (codes "pair") ∷ []) ∷ absent ∷ [])
    ∷ of form.Aggregate 405
    (of form.Name INTEGER (node form.Identifier (Some 404) (Some INTEGER) 0 (codes "start_2") [] ∷ [])
    ∷ of form.Name INTEGER (node form.Identifier (Some 404) (Some INTEGER) 0 (codes "start_2") [] ∷ []) ∷ []) ∷ [])
    ∷ node form.FunctionDeclaration (Some 416) None 0 []
    (absent ∷ node form.Identifier (Some 416) None 0 (codes "turned_2") [] ∷ absent ∷ absent
    ∷ plain form.ParameterList
    (plain form.ParameterDeclaration
    (absent ∷ plain form.IdentifierList (node form.Identifier (Some 415) None 0 (codes "p") [] ∷ []) ∷ absent
    ∷ plain form.SubtypeIndication (node form.SelectedName (Some 405) None 0 [] (leaf form.Identifier (codes "pair") ∷ []) ∷ absent ∷ []) ∷ []) ∷ [])
    ∷ node form.SelectedName (Some 405) None 0 [] (leaf form.Identifier (codes "pair") ∷ []) ∷ []) ∷ [])
    ∷ plain form.Closing (plain form.ClosingWord [] ∷ leaf form.Identifier (codes "numbers") ∷ []) ∷ []) ∷ [])

abbrev pub body_of_numbers : Forest Resolved
body_of_numbers =
    plain form.DesignUnit
    (plain form.ContextClause []
    ∷ plain form.PackageBody
    (node form.Identifier (Some 402) None 0 (codes "numbers") []
    ∷ plain form.DeclarativePart
    (node form.FunctionBody (Some 416) None 0 []
    (absent ∷ node form.Identifier (Some 416) None 0 (codes "turned_2") [] ∷ absent ∷ absent
    ∷ plain form.ParameterList
    (plain form.ParameterDeclaration
    (absent ∷ plain form.IdentifierList (node form.Identifier (Some 415) None 0 (codes "p") [] ∷ []) ∷ absent
    ∷ plain form.SubtypeIndication (node form.SelectedName (Some 405) None 0 [] (leaf form.Identifier (codes "pair") ∷ []) ∷ absent ∷ []) ∷ []) ∷ [])
    ∷ node form.SelectedName (Some 405) None 0 [] (leaf form.Identifier (codes "pair") ∷ []) ∷ plain form.DeclarativePart []
    ∷ plain form.Statements
    (plain form.ReturnStatement
    (of form.Aggregate 405
    (of form.Name INTEGER
    (node form.Identifier (Some 415) (Some 405) 0 (codes "p") []
    ∷ node form.Selection (Some 407) (Some INTEGER) 1 [] (leaf form.Identifier (codes "b") ∷ []) ∷ [])
    ∷ of form.Name INTEGER
    (node form.Identifier (Some 415) (Some 405) 0 (codes "p") []
    ∷ node form.Selection (Some 406) (Some INTEGER) 0 [] (leaf form.Identifier (codes "a") ∷ []) ∷ []) ∷ []) ∷ []) ∷ [])
    ∷ plain form.FunctionClosing (absent ∷ absent ∷ []) ∷ []) ∷ [])
    ∷ plain form.Closing (plain form.ClosingWord [] ∷ leaf form.Identifier (codes "numbers") ∷ []) ∷ []) ∷ [])

abbrev pub entity_g : Forest Resolved
entity_g =
    plain form.DesignUnit
    (plain form.ContextClause []
    ∷ plain form.EntityDeclaration
    (node form.Identifier (Some 417) None 0 (codes "g") [] ∷ absent ∷ absent
    ∷ plain form.Closing (plain form.ClosingWord [] ∷ leaf form.Identifier (codes "g") ∷ []) ∷ []) ∷ [])

abbrev pub architecture_a_of_g : Forest Resolved
architecture_a_of_g =
    plain form.DesignUnit
    (plain form.ContextClause []
    ∷ plain form.ArchitectureBody
    (node form.Identifier (Some 418) None 0 (codes "a") [] ∷ node form.Identifier (Some 417) None 0 (codes "g") []
    ∷ plain form.DeclarativePart
    (plain form.SignalDeclaration
    (plain form.IdentifierList (node form.Identifier (Some 419) None 0 (codes "x") [] ∷ [])
    ∷ plain form.SubtypeIndication
    (node form.SelectedName (Some 390) None 0 []
    (leaf form.Identifier (codes "work") ∷ leaf form.Identifier (codes "bits") ∷ leaf form.Identifier (codes "pair") ∷ [])
    ∷ absent ∷ [])
    ∷ of form.Aggregate 390 (node form.Letter (Some 9) (Some BIT) 0 (codes "0") [] ∷ node form.Letter (Some 10) (Some BIT) 1 (codes "1") [] ∷ []) ∷ [])
    ∷ plain form.SignalDeclaration
    (plain form.IdentifierList (node form.Identifier (Some 420) None 0 (codes "y") [] ∷ [])
    ∷ plain form.SubtypeIndication
    (node form.SelectedName (Some 405) None 0 []
    (leaf form.Identifier (codes "work") ∷ leaf form.Identifier (codes "numbers") ∷ leaf form.Identifier (codes "pair") ∷ [])
    ∷ absent ∷ [])
    ∷ of form.Name 405
    (node form.Identifier (Some 0) None 0 (codes "work") [] ∷ node form.Selection (Some 402) None 0 [] (leaf form.Identifier (codes "numbers") ∷ [])
    ∷ node form.Selection (Some 414) (Some 405) 0 [] (leaf form.Identifier (codes "empty") ∷ []) ∷ []) ∷ []) ∷ [])
    ∷ plain form.StatementPart
    (plain form.ProcessStatement
    (absent ∷ plain form.Is [] ∷ plain form.DeclarativePart []
    ∷ plain form.Statements
    (plain form.SignalAssignment
    (of form.Name 390 (node form.Identifier (Some 419) (Some 390) 0 (codes "x") [] ∷ []) ∷ absent
    ∷ of form.Name 390
    (node form.Identifier (Some 0) None 0 (codes "work") [] ∷ node form.Selection (Some 387) None 0 [] (leaf form.Identifier (codes "bits") ∷ [])
    ∷ node form.Selection (Some 401) None 0 [] (leaf form.Identifier (codes "turned") ∷ [])
    ∷ node form.Arguments (Some 401) (Some 390) 0 [] (of form.Name 390 (node form.Identifier (Some 419) (Some 390) 0 (codes "x") [] ∷ []) ∷ []) ∷ []) ∷ [])
    ∷ plain form.SignalAssignment
    (of form.Name 405 (node form.Identifier (Some 420) (Some 405) 0 (codes "y") [] ∷ []) ∷ absent
    ∷ of form.Name 405
    (node form.Identifier (Some 0) None 0 (codes "work") [] ∷ node form.Selection (Some 402) None 0 [] (leaf form.Identifier (codes "numbers") ∷ [])
    ∷ node form.Selection (Some 416) None 0 [] (leaf form.Identifier (codes "turned_2") ∷ [])
    ∷ node form.Arguments (Some 416) (Some 405) 0 []
    (of form.Aggregate 405
    (node form.Number None (Some INTEGER) 0 (codes "7") []
    ∷ of form.Name INTEGER
    (node form.Identifier (Some 420) (Some 405) 0 (codes "y") []
    ∷ node form.Selection (Some 406) (Some INTEGER) 0 [] (leaf form.Identifier (codes "a") ∷ []) ∷ []) ∷ []) ∷ []) ∷ []) ∷ [])
    ∷ plain form.WaitStatement (absent ∷ absent ∷ absent ∷ []) ∷ [])
    ∷ absent ∷ []) ∷ [])
    ∷ plain form.Closing (plain form.ClosingWord [] ∷ leaf form.Identifier (codes "a") ∷ []) ∷ []) ∷ [])

abbrev pub design : ResolvedTree
design = designed V1993 (package_bits ∷ body_of_bits ∷ package_numbers ∷ body_of_numbers ∷ entity_g ∷ architecture_a_of_g ∷ []) declarations
