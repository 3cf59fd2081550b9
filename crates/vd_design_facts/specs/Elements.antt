-- The tree of a design. Written by tools/resolved-trees from examples/worked/elements.vhd, which is of revision 2019:
--
-- entity t is
-- end entity;
-- architecture s of t is
--   type a is array (natural range <>) of bit_vector(0 to 3);
--   type b is array (natural range <>) of bit_vector(1 to 4);
--   signal r : integer := 0;
--   signal l : bit := '0';
-- begin
--   process
--     variable x : a(0 to 1) := ("1000", "0001");
--     variable y : b(0 to 1);
--   begin
--     y := b(x);
--     r <= y(0)'right;
--     l <= y(1)(4);
--     wait;
--   end process;
-- end architecture;
-- entity v is
-- end entity;
-- architecture s of v is
--   type a is array (natural range <>) of bit_vector(0 to 3);
--   type c is array (natural range <>) of bit_vector(0 to 7);
--   signal l : c(0 to 1);
-- begin
--   process
--     variable x : a(0 to 1);
--   begin
--     l <= c(x);
--     wait;
--   end process;
-- end architecture;
use Rattle.std.specs.Prelude.{List, [], ◌∷◌, Some, None, codes}
use Rattle.vd_declarations.specs.declared.classes.Class.TheVariants as class
use Rattle.vd_declarations.specs.declared.declarations.Declaration.{Declaration}
use Rattle.vd_forest.specs.Forest.{Forest}
use Rattle.vd_forms.specs.declared.form.Form.TheVariants as form
use Rattle.vd_resolved.specs.declared.node.Resolved.{Resolved}
use Rattle.vd_predefined.specs.Entries.{declared}
use Rattle.vd_predefined.specs.declared.numbers.TheConstants.{BOOLEAN, BIT, INTEGER, NATURAL, BIT_VECTOR}
use Rattle.vd_meaning_facts.specs.Trees.{node, plain, absent, of, leaf}
use Rattle.vd_trees.specs.declared.revision.Revision.TheVariants.{V2019}
use Rattle.vd_resolved.specs.Trees.{ResolvedTree}
use Rattle.vd_design_facts.specs.Designs.{designed}

abbrev pub declarations : List Declaration
declarations =
    declared class.Entity (codes "t") None []
    ∷ declared class.Architecture (codes "s") None []
    ∷ declared (class.ArrayType INTEGER BIT_VECTOR BIT_VECTOR) (codes "a") None []
    ∷ declared class.Parameter (codes "l") (Some 465) []
    ∷ declared class.Parameter (codes "r") (Some 465) []
    ∷ declared class.Parameter (codes "l") (Some BIT_VECTOR) []
    ∷ declared class.Parameter (codes "r") (Some BIT_VECTOR) []
    ∷ declared class.Parameter (codes "l") (Some INTEGER) []
    ∷ declared class.Parameter (codes "r") (Some INTEGER) []
    ∷ declared class.PredefinedOperator (codes "\"=\"") (Some BOOLEAN) (466 ∷ 467 ∷ [])
    ∷ declared class.PredefinedOperator (codes "\"/=\"") (Some BOOLEAN) (466 ∷ 467 ∷ [])
    ∷ declared class.PredefinedOperator (codes "\"&\"") (Some 465) (466 ∷ 467 ∷ [])
    ∷ declared class.PredefinedOperator (codes "\"&\"") (Some 465) (466 ∷ 469 ∷ [])
    ∷ declared class.PredefinedOperator (codes "\"&\"") (Some 465) (468 ∷ 467 ∷ [])
    ∷ declared class.PredefinedOperator (codes "\"&\"") (Some 465) (468 ∷ 469 ∷ [])
    ∷ declared (class.ArrayType INTEGER BIT_VECTOR BIT_VECTOR) (codes "b") None []
    ∷ declared class.Parameter (codes "l") (Some 478) []
    ∷ declared class.Parameter (codes "r") (Some 478) []
    ∷ declared class.Parameter (codes "l") (Some BIT_VECTOR) []
    ∷ declared class.Parameter (codes "r") (Some BIT_VECTOR) []
    ∷ declared class.Parameter (codes "l") (Some INTEGER) []
    ∷ declared class.Parameter (codes "r") (Some INTEGER) []
    ∷ declared class.PredefinedOperator (codes "\"=\"") (Some BOOLEAN) (479 ∷ 480 ∷ [])
    ∷ declared class.PredefinedOperator (codes "\"/=\"") (Some BOOLEAN) (479 ∷ 480 ∷ [])
    ∷ declared class.PredefinedOperator (codes "\"&\"") (Some 478) (479 ∷ 480 ∷ [])
    ∷ declared class.PredefinedOperator (codes "\"&\"") (Some 478) (479 ∷ 482 ∷ [])
    ∷ declared class.PredefinedOperator (codes "\"&\"") (Some 478) (481 ∷ 480 ∷ [])
    ∷ declared class.PredefinedOperator (codes "\"&\"") (Some 478) (481 ∷ 482 ∷ [])
    ∷ declared class.Signal (codes "r") (Some INTEGER) []
    ∷ declared class.Signal (codes "l") (Some BIT) []
    ∷ declared class.Variable (codes "x") (Some 465) []
    ∷ declared class.Variable (codes "y") (Some 478) []
    ∷ declared class.Entity (codes "v") None []
    ∷ declared class.Architecture (codes "s") None []
    ∷ declared (class.ArrayType INTEGER BIT_VECTOR BIT_VECTOR) (codes "a") None []
    ∷ declared class.Parameter (codes "l") (Some 497) []
    ∷ declared class.Parameter (codes "r") (Some 497) []
    ∷ declared class.Parameter (codes "l") (Some BIT_VECTOR) []
    ∷ declared class.Parameter (codes "r") (Some BIT_VECTOR) []
    ∷ declared class.Parameter (codes "l") (Some INTEGER) []
    ∷ declared class.Parameter (codes "r") (Some INTEGER) []
    ∷ declared class.PredefinedOperator (codes "\"=\"") (Some BOOLEAN) (498 ∷ 499 ∷ [])
    ∷ declared class.PredefinedOperator (codes "\"/=\"") (Some BOOLEAN) (498 ∷ 499 ∷ [])
    ∷ declared class.PredefinedOperator (codes "\"&\"") (Some 497) (498 ∷ 499 ∷ [])
    ∷ declared class.PredefinedOperator (codes "\"&\"") (Some 497) (498 ∷ 501 ∷ [])
    ∷ declared class.PredefinedOperator (codes "\"&\"") (Some 497) (500 ∷ 499 ∷ [])
    ∷ declared class.PredefinedOperator (codes "\"&\"") (Some 497) (500 ∷ 501 ∷ [])
    ∷ declared (class.ArrayType INTEGER BIT_VECTOR BIT_VECTOR) (codes "c") None []
    ∷ declared class.Parameter (codes "l") (Some 510) []
    ∷ declared class.Parameter (codes "r") (Some 510) []
    ∷ declared class.Parameter (codes "l") (Some BIT_VECTOR) []
    ∷ declared class.Parameter (codes "r") (Some BIT_VECTOR) []
    ∷ declared class.Parameter (codes "l") (Some INTEGER) []
    ∷ declared class.Parameter (codes "r") (Some INTEGER) []
    ∷ declared class.PredefinedOperator (codes "\"=\"") (Some BOOLEAN) (511 ∷ 512 ∷ [])
    ∷ declared class.PredefinedOperator (codes "\"/=\"") (Some BOOLEAN) (511 ∷ 512 ∷ [])
    ∷ declared class.PredefinedOperator (codes "\"&\"") (Some 510) (511 ∷ 512 ∷ [])
    ∷ declared class.PredefinedOperator (codes "\"&\"") (Some 510) (511 ∷ 514 ∷ [])
    ∷ declared class.PredefinedOperator (codes "\"&\"") (Some 510) (513 ∷ 512 ∷ [])
    ∷ declared class.PredefinedOperator (codes "\"&\"") (Some 510) (513 ∷ 514 ∷ [])
    ∷ declared class.Signal (codes "l") (Some 510) []
    ∷ declared class.Variable (codes "x") (Some 497) [] ∷ []

abbrev pub entity_t : Forest Resolved
entity_t =
    plain form.DesignUnit
    (plain form.ContextClause []
    ∷ plain form.EntityDeclaration
    (node form.Identifier (Some 463) None 0 (codes "t") [] ∷ absent ∷ absent ∷ plain form.Closing (plain form.ClosingWord [] ∷ absent ∷ []) ∷ []) ∷ [])

abbrev pub architecture_s_of_t : Forest Resolved
architecture_s_of_t =
    plain form.DesignUnit
    (plain form.ContextClause []
    ∷ plain form.ArchitectureBody
    (node form.Identifier (Some 464) None 0 (codes "s") [] ∷ node form.Identifier (Some 463) None 0 (codes "t") []
    ∷ plain form.DeclarativePart
    (node form.TypeDeclaration (Some 465) None 0 []
    (node form.Identifier (Some 465) None 0 (codes "a") []
    ∷ plain form.ArrayType
    (plain form.UnconstrainedIndex (plain form.Name (node form.Identifier (Some NATURAL) None 0 (codes "natural") [] ∷ []) ∷ [])
    ∷ plain form.SubtypeIndication
    (node form.SelectedName (Some BIT_VECTOR) None 0 [] (leaf form.Identifier (codes "bit_vector") ∷ [])
    ∷ plain form.IndexConstraint
    (of form.Ascending INTEGER (node form.Number None (Some INTEGER) 0 (codes "0") [] ∷ node form.Number None (Some INTEGER) 0 (codes "3") [] ∷ []) ∷ []) ∷ []) ∷ []) ∷ [])
    ∷ node form.TypeDeclaration (Some 478) None 0 []
    (node form.Identifier (Some 478) None 0 (codes "b") []
    ∷ plain form.ArrayType
    (plain form.UnconstrainedIndex (plain form.Name (node form.Identifier (Some NATURAL) None 0 (codes "natural") [] ∷ []) ∷ [])
    ∷ plain form.SubtypeIndication
    (node form.SelectedName (Some BIT_VECTOR) None 0 [] (leaf form.Identifier (codes "bit_vector") ∷ [])
    ∷ plain form.IndexConstraint
    (of form.Ascending INTEGER (node form.Number None (Some INTEGER) 0 (codes "1") [] ∷ node form.Number None (Some INTEGER) 0 (codes "4") [] ∷ []) ∷ []) ∷ []) ∷ []) ∷ [])
    ∷ plain form.SignalDeclaration
    (plain form.IdentifierList (node form.Identifier (Some 491) None 0 (codes "r") [] ∷ [])
    ∷ plain form.SubtypeIndication (node form.SelectedName (Some INTEGER) None 0 [] (leaf form.Identifier (codes "integer") ∷ []) ∷ absent ∷ [])
    ∷ node form.Number None (Some INTEGER) 0 (codes "0") [] ∷ [])
    ∷ plain form.SignalDeclaration
    (plain form.IdentifierList (node form.Identifier (Some 492) None 0 (codes "l") [] ∷ [])
    ∷ plain form.SubtypeIndication (node form.SelectedName (Some BIT) None 0 [] (leaf form.Identifier (codes "bit") ∷ []) ∷ absent ∷ [])
    ∷ node form.Letter (Some 9) (Some BIT) 0 (codes "0") [] ∷ []) ∷ [])
    ∷ plain form.StatementPart
    (plain form.ProcessStatement
    (absent ∷ absent
    ∷ plain form.DeclarativePart
    (plain form.VariableDeclaration
    (plain form.IdentifierList (node form.Identifier (Some 493) None 0 (codes "x") [] ∷ [])
    ∷ plain form.SubtypeIndication
    (node form.SelectedName (Some 465) None 0 [] (leaf form.Identifier (codes "a") ∷ [])
    ∷ plain form.IndexConstraint
    (of form.Ascending INTEGER (node form.Number None (Some INTEGER) 0 (codes "0") [] ∷ node form.Number None (Some INTEGER) 0 (codes "1") [] ∷ []) ∷ []) ∷ [])
    ∷ of form.Aggregate 465 (node form.Quoted None (Some BIT_VECTOR) 0 (codes "1000") [] ∷ node form.Quoted None (Some BIT_VECTOR) 0 (codes "0001") [] ∷ []) ∷ [])
    ∷ plain form.VariableDeclaration
    (plain form.IdentifierList (node form.Identifier (Some 494) None 0 (codes "y") [] ∷ [])
    ∷ plain form.SubtypeIndication
    (node form.SelectedName (Some 478) None 0 [] (leaf form.Identifier (codes "b") ∷ [])
    ∷ plain form.IndexConstraint
    (of form.Ascending INTEGER (node form.Number None (Some INTEGER) 0 (codes "0") [] ∷ node form.Number None (Some INTEGER) 0 (codes "1") [] ∷ []) ∷ []) ∷ [])
    ∷ absent ∷ []) ∷ [])
    ∷ plain form.Statements
    (plain form.VariableAssignment
    (of form.Name 478 (node form.Identifier (Some 494) (Some 478) 0 (codes "y") [] ∷ [])
    ∷ of form.Name 478
    (node form.Identifier (Some 478) None 0 (codes "b") []
    ∷ node form.Arguments (Some 478) (Some 478) 0 [] (of form.Name 465 (node form.Identifier (Some 493) (Some 465) 0 (codes "x") [] ∷ []) ∷ []) ∷ []) ∷ [])
    ∷ plain form.SignalAssignment
    (of form.Name INTEGER (node form.Identifier (Some 491) (Some INTEGER) 0 (codes "r") [] ∷ []) ∷ absent
    ∷ of form.Name INTEGER
    (node form.Identifier (Some 494) (Some 478) 0 (codes "y") []
    ∷ of form.Arguments BIT_VECTOR (node form.Number None (Some INTEGER) 0 (codes "0") [] ∷ [])
    ∷ of form.Attribute INTEGER (leaf form.Identifier (codes "right") ∷ []) ∷ []) ∷ [])
    ∷ plain form.SignalAssignment
    (of form.Name BIT (node form.Identifier (Some 492) (Some BIT) 0 (codes "l") [] ∷ []) ∷ absent
    ∷ of form.Name BIT
    (node form.Identifier (Some 494) (Some 478) 0 (codes "y") []
    ∷ of form.Arguments BIT_VECTOR (node form.Number None (Some INTEGER) 0 (codes "1") [] ∷ [])
    ∷ of form.Arguments BIT (node form.Number None (Some INTEGER) 0 (codes "4") [] ∷ []) ∷ []) ∷ [])
    ∷ plain form.WaitStatement (absent ∷ absent ∷ absent ∷ []) ∷ [])
    ∷ absent ∷ []) ∷ [])
    ∷ plain form.Closing (plain form.ClosingWord [] ∷ absent ∷ []) ∷ []) ∷ [])

abbrev pub entity_v : Forest Resolved
entity_v =
    plain form.DesignUnit
    (plain form.ContextClause []
    ∷ plain form.EntityDeclaration
    (node form.Identifier (Some 495) None 0 (codes "v") [] ∷ absent ∷ absent ∷ plain form.Closing (plain form.ClosingWord [] ∷ absent ∷ []) ∷ []) ∷ [])

abbrev pub architecture_s_of_v : Forest Resolved
architecture_s_of_v =
    plain form.DesignUnit
    (plain form.ContextClause []
    ∷ plain form.ArchitectureBody
    (node form.Identifier (Some 496) None 0 (codes "s") [] ∷ node form.Identifier (Some 495) None 0 (codes "v") []
    ∷ plain form.DeclarativePart
    (node form.TypeDeclaration (Some 497) None 0 []
    (node form.Identifier (Some 497) None 0 (codes "a") []
    ∷ plain form.ArrayType
    (plain form.UnconstrainedIndex (plain form.Name (node form.Identifier (Some NATURAL) None 0 (codes "natural") [] ∷ []) ∷ [])
    ∷ plain form.SubtypeIndication
    (node form.SelectedName (Some BIT_VECTOR) None 0 [] (leaf form.Identifier (codes "bit_vector") ∷ [])
    ∷ plain form.IndexConstraint
    (of form.Ascending INTEGER (node form.Number None (Some INTEGER) 0 (codes "0") [] ∷ node form.Number None (Some INTEGER) 0 (codes "3") [] ∷ []) ∷ []) ∷ []) ∷ []) ∷ [])
    ∷ node form.TypeDeclaration (Some 510) None 0 []
    (node form.Identifier (Some 510) None 0 (codes "c") []
    ∷ plain form.ArrayType
    (plain form.UnconstrainedIndex (plain form.Name (node form.Identifier (Some NATURAL) None 0 (codes "natural") [] ∷ []) ∷ [])
    ∷ plain form.SubtypeIndication
    (node form.SelectedName (Some BIT_VECTOR) None 0 [] (leaf form.Identifier (codes "bit_vector") ∷ [])
    ∷ plain form.IndexConstraint
    (of form.Ascending INTEGER (node form.Number None (Some INTEGER) 0 (codes "0") [] ∷ node form.Number None (Some INTEGER) 0 (codes "7") [] ∷ []) ∷ []) ∷ []) ∷ []) ∷ [])
    ∷ plain form.SignalDeclaration
    (plain form.IdentifierList (node form.Identifier (Some 523) None 0 (codes "l") [] ∷ [])
    ∷ plain form.SubtypeIndication
    (node form.SelectedName (Some 510) None 0 [] (leaf form.Identifier (codes "c") ∷ [])
    ∷ plain form.IndexConstraint
    (of form.Ascending INTEGER (node form.Number None (Some INTEGER) 0 (codes "0") [] ∷ node form.Number None (Some INTEGER) 0 (codes "1") [] ∷ []) ∷ []) ∷ [])
    ∷ absent ∷ []) ∷ [])
    ∷ plain form.StatementPart
    (plain form.ProcessStatement
    (absent ∷ absent
    ∷ plain form.DeclarativePart
    (plain form.VariableDeclaration
    (plain form.IdentifierList (node form.Identifier (Some 524) None 0 (codes "x") [] ∷ [])
    ∷ plain form.SubtypeIndication
    (node form.SelectedName (Some 497) None 0 [] (leaf form.Identifier (codes "a") ∷ [])
    ∷ plain form.IndexConstraint
    (of form.Ascending INTEGER (node form.Number None (Some INTEGER) 0 (codes "0") [] ∷ node form.Number None (Some INTEGER) 0 (codes "1") [] ∷ []) ∷ []) ∷ [])
    ∷ absent ∷ []) ∷ [])
    ∷ plain form.Statements
    (plain form.SignalAssignment
    (of form.Name 510 (node form.Identifier (Some 523) (Some 510) 0 (codes "l") [] ∷ []) ∷ absent
    ∷ of form.Name 510
    (node form.Identifier (Some 510) None 0 (codes "c") []
    ∷ node form.Arguments (Some 510) (Some 510) 0 [] (of form.Name 497 (node form.Identifier (Some 524) (Some 497) 0 (codes "x") [] ∷ []) ∷ []) ∷ []) ∷ [])
    ∷ plain form.WaitStatement (absent ∷ absent ∷ absent ∷ []) ∷ [])
    ∷ absent ∷ []) ∷ [])
    ∷ plain form.Closing (plain form.ClosingWord [] ∷ absent ∷ []) ∷ []) ∷ [])

abbrev pub design : ResolvedTree
design = designed V2019 (entity_t ∷ architecture_s_of_t ∷ entity_v ∷ architecture_s_of_v ∷ []) declarations
