-- The tree of a design. Written by tools/resolved-trees from examples/worked/instances.vhd, which is of revision 2019:
--
-- package pairs is
--   generic (type t; start : t);
--   type pair is record
--     a : t;
--     b : t;
--   end record;
--   constant empty : pair := (start, start);
--   function turned(p : pair) return pair;
-- end package;
-- package body pairs is
--   function turned(p : pair) return pair is
--   begin
--     return (p.b, p.a);
--   end;
-- end package body;
-- package bits is new work.pairs generic map (t => bit, start => '0');
-- package numbers is new work.pairs generic map (t => integer, start => 3);
-- entity g is
-- end entity;
-- architecture a of g is
--   signal x : work.bits.pair := ('0', '1');
--   signal y : work.numbers.pair := work.numbers.empty;
-- begin
--   process
--   begin
--     x <= work.bits.turned(x);
--     y <= work.numbers.turned((7, y.a));
--     wait;
--   end process;
-- end architecture;
use Rattle.std.specs.Prelude.{List, [], ◌∷◌, Some, None, codes}
use Rattle.vd_declarations.specs.declared.classes.Class.TheVariants as class
use Rattle.vd_declarations.specs.declared.declarations.Declaration.{Declaration}
use Rattle.vd_forest.specs.Forest.{Forest}
use Rattle.vd_forms.specs.declared.form.Form.TheVariants as form
use Rattle.vd_resolved.specs.declared.node.Resolved.{Resolved}
use Rattle.vd_predefined.specs.Entries.{declared}
use Rattle.vd_predefined.specs.declared.numbers.TheConstants.{BOOLEAN, BIT, INTEGER}
use Rattle.vd_meaning_facts.specs.Trees.{node, plain, absent, of, leaf}
use Rattle.vd_trees.specs.declared.revision.Revision.TheVariants.{V2019}
use Rattle.vd_resolved.specs.Trees.{ResolvedTree}
use Rattle.vd_design_facts.specs.Designs.{designed, with_generics, generic_copy}

abbrev pub declarations : List Declaration
declarations =
    with_generics (464 ∷ 471 ∷ []) (declared class.UninstantiatedPackage (codes "pairs") None (472 ∷ 479 ∷ 480 ∷ 481 ∷ 483 ∷ []))
    ∷ declared class.GenericType (codes "t") None []
    ∷ declared class.Parameter (codes "l") (Some 464) []
    ∷ declared class.Parameter (codes "r") (Some 464) []
    ∷ declared class.Parameter (codes "l") (Some INTEGER) []
    ∷ declared class.Parameter (codes "r") (Some INTEGER) []
    ∷ declared class.PredefinedOperator (codes "\"=\"") (Some BOOLEAN) (465 ∷ 466 ∷ [])
    ∷ declared class.PredefinedOperator (codes "\"/=\"") (Some BOOLEAN) (465 ∷ 466 ∷ [])
    ∷ declared class.GenericConstant (codes "start") (Some 464) []
    ∷ declared class.RecordType (codes "pair") None (473 ∷ 474 ∷ [])
    ∷ declared class.RecordElement (codes "a") (Some 464) []
    ∷ declared class.RecordElement (codes "b") (Some 464) []
    ∷ declared class.Parameter (codes "l") (Some 472) []
    ∷ declared class.Parameter (codes "r") (Some 472) []
    ∷ declared class.Parameter (codes "l") (Some INTEGER) []
    ∷ declared class.Parameter (codes "r") (Some INTEGER) []
    ∷ declared class.PredefinedOperator (codes "\"=\"") (Some BOOLEAN) (475 ∷ 476 ∷ [])
    ∷ declared class.PredefinedOperator (codes "\"/=\"") (Some BOOLEAN) (475 ∷ 476 ∷ [])
    ∷ declared class.Constant (codes "empty") (Some 472) []
    ∷ declared class.Parameter (codes "p") (Some 472) []
    ∷ declared class.Function (codes "turned") (Some 472) (482 ∷ [])
    ∷ with_generics (485 ∷ 486 ∷ []) (declared class.PackageInstance (codes "bits") None (487 ∷ 494 ∷ 495 ∷ 496 ∷ 498 ∷ []))
    ∷ generic_copy (declared (class.Subtype BIT) (codes "t") (Some BIT) [])
    ∷ generic_copy (declared class.GenericConstant (codes "start") (Some BIT) [])
    ∷ declared class.RecordType (codes "pair") None (488 ∷ 489 ∷ [])
    ∷ declared class.RecordElement (codes "a") (Some BIT) []
    ∷ declared class.RecordElement (codes "b") (Some BIT) []
    ∷ declared class.Parameter (codes "l") (Some 487) []
    ∷ declared class.Parameter (codes "r") (Some 487) []
    ∷ declared class.Parameter (codes "l") (Some INTEGER) []
    ∷ declared class.Parameter (codes "r") (Some INTEGER) []
    ∷ declared class.PredefinedOperator (codes "\"=\"") (Some BOOLEAN) (490 ∷ 491 ∷ [])
    ∷ declared class.PredefinedOperator (codes "\"/=\"") (Some BOOLEAN) (490 ∷ 491 ∷ [])
    ∷ declared class.Constant (codes "empty") (Some 487) []
    ∷ declared class.Parameter (codes "p") (Some 487) []
    ∷ declared class.InstanceFunction (codes "turned") (Some 487) (497 ∷ [])
    ∷ with_generics (500 ∷ 501 ∷ []) (declared class.PackageInstance (codes "numbers") None (502 ∷ 509 ∷ 510 ∷ 511 ∷ 513 ∷ []))
    ∷ generic_copy (declared (class.Subtype INTEGER) (codes "t") (Some INTEGER) [])
    ∷ generic_copy (declared class.GenericConstant (codes "start") (Some INTEGER) [])
    ∷ declared class.RecordType (codes "pair") None (503 ∷ 504 ∷ [])
    ∷ declared class.RecordElement (codes "a") (Some INTEGER) []
    ∷ declared class.RecordElement (codes "b") (Some INTEGER) []
    ∷ declared class.Parameter (codes "l") (Some 502) []
    ∷ declared class.Parameter (codes "r") (Some 502) []
    ∷ declared class.Parameter (codes "l") (Some INTEGER) []
    ∷ declared class.Parameter (codes "r") (Some INTEGER) []
    ∷ declared class.PredefinedOperator (codes "\"=\"") (Some BOOLEAN) (505 ∷ 506 ∷ [])
    ∷ declared class.PredefinedOperator (codes "\"/=\"") (Some BOOLEAN) (505 ∷ 506 ∷ [])
    ∷ declared class.Constant (codes "empty") (Some 502) []
    ∷ declared class.Parameter (codes "p") (Some 502) []
    ∷ declared class.InstanceFunction (codes "turned") (Some 502) (512 ∷ [])
    ∷ declared class.Entity (codes "g") None []
    ∷ declared class.Architecture (codes "a") None []
    ∷ declared class.Signal (codes "x") (Some 487) []
    ∷ declared class.Signal (codes "y") (Some 502) [] ∷ []

abbrev pub package_pairs : Forest Resolved
package_pairs =
    plain form.DesignUnit
    (plain form.ContextClause []
    ∷ plain form.PackageDeclaration
    (node form.Identifier (Some 463) None 0 (codes "pairs") []
    ∷ plain form.GenericClause
    (node form.GenericType (Some 464) None 0 [] (node form.Identifier (Some 464) None 0 (codes "t") [] ∷ [])
    ∷ plain form.GenericConstant
    (absent ∷ plain form.IdentifierList (node form.Identifier (Some 471) None 0 (codes "start") [] ∷ []) ∷ absent
    ∷ plain form.SubtypeIndication (node form.SelectedName (Some 464) None 0 [] (leaf form.Identifier (codes "t") ∷ []) ∷ absent ∷ []) ∷ absent ∷ []) ∷ [])
    ∷ plain form.DeclarativePart
    (node form.TypeDeclaration (Some 472) None 0 []
    (node form.Identifier (Some 472) None 0 (codes "pair") []
    ∷ plain form.RecordType
    (plain form.RecordElements
    (plain form.RecordElement
    (plain form.IdentifierList (node form.Identifier (Some 473) None 0 (codes "a") [] ∷ [])
    ∷ plain form.SubtypeIndication (node form.SelectedName (Some 464) None 0 [] (leaf form.Identifier (codes "t") ∷ []) ∷ absent ∷ []) ∷ [])
    ∷ plain form.RecordElement
    (plain form.IdentifierList (node form.Identifier (Some 474) None 0 (codes "b") [] ∷ [])
    ∷ plain form.SubtypeIndication (node form.SelectedName (Some 464) None 0 [] (leaf form.Identifier (codes "t") ∷ []) ∷ absent ∷ []) ∷ []) ∷ [])
    ∷ absent ∷ []) ∷ [])
    ∷ plain form.ConstantDeclaration
    (plain form.IdentifierList (node form.Identifier (Some 481) None 0 (codes "empty") [] ∷ [])
    ∷ plain form.SubtypeIndication (node form.SelectedName (Some 472) None 0 [] (leaf form.Identifier (codes "pair") ∷ []) ∷ absent ∷ [])
    ∷ of form.Aggregate 472
    (of form.Name 464 (node form.Identifier (Some 471) (Some 464) 0 (codes "start") [] ∷ [])
    ∷ of form.Name 464 (node form.Identifier (Some 471) (Some 464) 0 (codes "start") [] ∷ []) ∷ []) ∷ [])
    ∷ node form.FunctionDeclaration (Some 483) None 0 []
    (absent ∷ node form.Identifier (Some 483) None 0 (codes "turned") [] ∷ absent ∷ absent
    ∷ plain form.ParameterList
    (plain form.ParameterDeclaration
    (absent ∷ plain form.IdentifierList (node form.Identifier (Some 482) None 0 (codes "p") [] ∷ []) ∷ absent
    ∷ plain form.SubtypeIndication (node form.SelectedName (Some 472) None 0 [] (leaf form.Identifier (codes "pair") ∷ []) ∷ absent ∷ []) ∷ []) ∷ [])
    ∷ node form.SelectedName (Some 472) None 0 [] (leaf form.Identifier (codes "pair") ∷ []) ∷ []) ∷ [])
    ∷ plain form.Closing (plain form.ClosingWord [] ∷ absent ∷ []) ∷ []) ∷ [])

abbrev pub body_of_pairs : Forest Resolved
body_of_pairs =
    plain form.DesignUnit
    (plain form.ContextClause []
    ∷ plain form.PackageBody
    (node form.Identifier (Some 463) None 0 (codes "pairs") []
    ∷ plain form.DeclarativePart
    (node form.FunctionBody (Some 483) None 0 []
    (absent ∷ node form.Identifier (Some 483) None 0 (codes "turned") [] ∷ absent ∷ absent
    ∷ plain form.ParameterList
    (plain form.ParameterDeclaration
    (absent ∷ plain form.IdentifierList (node form.Identifier (Some 482) None 0 (codes "p") [] ∷ []) ∷ absent
    ∷ plain form.SubtypeIndication (node form.SelectedName (Some 472) None 0 [] (leaf form.Identifier (codes "pair") ∷ []) ∷ absent ∷ []) ∷ []) ∷ [])
    ∷ node form.SelectedName (Some 472) None 0 [] (leaf form.Identifier (codes "pair") ∷ []) ∷ plain form.DeclarativePart []
    ∷ plain form.Statements
    (plain form.ReturnStatement
    (of form.Aggregate 472
    (of form.Name 464
    (node form.Identifier (Some 482) (Some 472) 0 (codes "p") [] ∷ node form.Selection (Some 474) (Some 464) 1 [] (leaf form.Identifier (codes "b") ∷ []) ∷ [])
    ∷ of form.Name 464
    (node form.Identifier (Some 482) (Some 472) 0 (codes "p") [] ∷ node form.Selection (Some 473) (Some 464) 0 [] (leaf form.Identifier (codes "a") ∷ []) ∷ []) ∷ []) ∷ []) ∷ [])
    ∷ plain form.FunctionClosing (absent ∷ absent ∷ []) ∷ []) ∷ [])
    ∷ plain form.Closing (plain form.ClosingWord [] ∷ absent ∷ []) ∷ []) ∷ [])

abbrev pub instance_bits : Forest Resolved
instance_bits =
    plain form.DesignUnit
    (plain form.ContextClause []
    ∷ node form.PackageInstantiation (Some 484) None 0 []
    (node form.Identifier (Some 484) None 0 (codes "bits") []
    ∷ node form.SelectedName (Some 463) None 0 [] (leaf form.Identifier (codes "work") ∷ leaf form.Identifier (codes "pairs") ∷ [])
    ∷ plain form.GenericMap
    (plain form.Association
    (plain form.AssociationChoices (node form.Name (Some 464) None 0 [] (leaf form.Identifier (codes "t") ∷ []) ∷ [])
    ∷ plain form.Name (node form.Identifier (Some BIT) None 0 (codes "bit") [] ∷ []) ∷ [])
    ∷ plain form.Association
    (plain form.AssociationChoices (node form.Name (Some 471) None 0 [] (leaf form.Identifier (codes "start") ∷ []) ∷ [])
    ∷ node form.Letter (Some 9) (Some BIT) 0 (codes "0") [] ∷ []) ∷ []) ∷ []) ∷ [])

abbrev pub instance_numbers : Forest Resolved
instance_numbers =
    plain form.DesignUnit
    (plain form.ContextClause []
    ∷ node form.PackageInstantiation (Some 499) None 0 []
    (node form.Identifier (Some 499) None 0 (codes "numbers") []
    ∷ node form.SelectedName (Some 463) None 0 [] (leaf form.Identifier (codes "work") ∷ leaf form.Identifier (codes "pairs") ∷ [])
    ∷ plain form.GenericMap
    (plain form.Association
    (plain form.AssociationChoices (node form.Name (Some 464) None 0 [] (leaf form.Identifier (codes "t") ∷ []) ∷ [])
    ∷ plain form.Name (node form.Identifier (Some INTEGER) None 0 (codes "integer") [] ∷ []) ∷ [])
    ∷ plain form.Association
    (plain form.AssociationChoices (node form.Name (Some 471) None 0 [] (leaf form.Identifier (codes "start") ∷ []) ∷ [])
    ∷ node form.Number None (Some INTEGER) 0 (codes "3") [] ∷ []) ∷ []) ∷ []) ∷ [])

abbrev pub entity_g : Forest Resolved
entity_g =
    plain form.DesignUnit
    (plain form.ContextClause []
    ∷ plain form.EntityDeclaration
    (node form.Identifier (Some 514) None 0 (codes "g") [] ∷ absent ∷ absent ∷ plain form.Closing (plain form.ClosingWord [] ∷ absent ∷ []) ∷ []) ∷ [])

abbrev pub architecture_a_of_g : Forest Resolved
architecture_a_of_g =
    plain form.DesignUnit
    (plain form.ContextClause []
    ∷ plain form.ArchitectureBody
    (node form.Identifier (Some 515) None 0 (codes "a") [] ∷ node form.Identifier (Some 514) None 0 (codes "g") []
    ∷ plain form.DeclarativePart
    (plain form.SignalDeclaration
    (plain form.IdentifierList (node form.Identifier (Some 516) None 0 (codes "x") [] ∷ [])
    ∷ plain form.SubtypeIndication
    (node form.SelectedName (Some 487) None 0 []
    (leaf form.Identifier (codes "work") ∷ leaf form.Identifier (codes "bits") ∷ leaf form.Identifier (codes "pair") ∷ [])
    ∷ absent ∷ [])
    ∷ of form.Aggregate 487 (node form.Letter (Some 9) (Some BIT) 0 (codes "0") [] ∷ node form.Letter (Some 10) (Some BIT) 1 (codes "1") [] ∷ []) ∷ [])
    ∷ plain form.SignalDeclaration
    (plain form.IdentifierList (node form.Identifier (Some 517) None 0 (codes "y") [] ∷ [])
    ∷ plain form.SubtypeIndication
    (node form.SelectedName (Some 502) None 0 []
    (leaf form.Identifier (codes "work") ∷ leaf form.Identifier (codes "numbers") ∷ leaf form.Identifier (codes "pair") ∷ [])
    ∷ absent ∷ [])
    ∷ of form.Name 502
    (node form.Identifier (Some 0) None 0 (codes "work") [] ∷ node form.Selection (Some 499) None 0 [] (leaf form.Identifier (codes "numbers") ∷ [])
    ∷ node form.Selection (Some 511) (Some 502) 0 [] (leaf form.Identifier (codes "empty") ∷ []) ∷ []) ∷ []) ∷ [])
    ∷ plain form.StatementPart
    (plain form.ProcessStatement
    (absent ∷ absent ∷ plain form.DeclarativePart []
    ∷ plain form.Statements
    (plain form.SignalAssignment
    (of form.Name 487 (node form.Identifier (Some 516) (Some 487) 0 (codes "x") [] ∷ []) ∷ absent
    ∷ of form.Name 487
    (node form.Identifier (Some 0) None 0 (codes "work") [] ∷ node form.Selection (Some 484) None 0 [] (leaf form.Identifier (codes "bits") ∷ [])
    ∷ node form.Selection (Some 498) None 0 [] (leaf form.Identifier (codes "turned") ∷ [])
    ∷ node form.Arguments (Some 498) (Some 487) 0 [] (of form.Name 487 (node form.Identifier (Some 516) (Some 487) 0 (codes "x") [] ∷ []) ∷ []) ∷ []) ∷ [])
    ∷ plain form.SignalAssignment
    (of form.Name 502 (node form.Identifier (Some 517) (Some 502) 0 (codes "y") [] ∷ []) ∷ absent
    ∷ of form.Name 502
    (node form.Identifier (Some 0) None 0 (codes "work") [] ∷ node form.Selection (Some 499) None 0 [] (leaf form.Identifier (codes "numbers") ∷ [])
    ∷ node form.Selection (Some 513) None 0 [] (leaf form.Identifier (codes "turned") ∷ [])
    ∷ node form.Arguments (Some 513) (Some 502) 0 []
    (of form.Aggregate 502
    (node form.Number None (Some INTEGER) 0 (codes "7") []
    ∷ of form.Name INTEGER
    (node form.Identifier (Some 517) (Some 502) 0 (codes "y") []
    ∷ node form.Selection (Some 503) (Some INTEGER) 0 [] (leaf form.Identifier (codes "a") ∷ []) ∷ []) ∷ []) ∷ []) ∷ []) ∷ [])
    ∷ plain form.WaitStatement (absent ∷ absent ∷ absent ∷ []) ∷ [])
    ∷ absent ∷ []) ∷ [])
    ∷ plain form.Closing (plain form.ClosingWord [] ∷ absent ∷ []) ∷ []) ∷ [])

abbrev pub design : ResolvedTree
design = designed V2019 (package_pairs ∷ body_of_pairs ∷ instance_bits ∷ instance_numbers ∷ entity_g ∷ architecture_a_of_g ∷ []) declarations
