-- The tree of a design. Written by tools/resolved-trees from examples/worked/indexes.vhd, which is of revision 2019:
--
-- entity t is
-- end entity;
-- architecture a of t is
--   type state is (idle, busy);
--   type flags is array (state) of bit;
--   type tags is array (character range 'a' to 'b') of integer;
--   signal f : flags;
--   signal g : tags;
-- begin
--   l : for i in state generate
--     signal r : bit;
--   begin
--     f(i) <= '1';
--     r <= f(i);
--   end generate;
-- end architecture;
use Rattle.std.specs.Prelude.{List, [], ◌∷◌, Some, None, codes}
use Rattle.vd_declarations.specs.declared.classes.Class.TheVariants as class
use Rattle.vd_declarations.specs.declared.declarations.Declaration.{Declaration}
use Rattle.vd_forest.specs.Forest.{Forest}
use Rattle.vd_forms.specs.declared.form.Form.TheVariants as form
use Rattle.vd_resolved.specs.declared.node.Resolved.{Resolved}
use Rattle.vd_predefined.specs.Entries.{declared}
use Rattle.vd_predefined.specs.declared.numbers.TheConstants.{BOOLEAN, BIT, CHARACTER, INTEGER}
use Rattle.vd_meaning_facts.specs.Trees.{node, plain, absent, of, leaf}
use Rattle.vd_trees.specs.declared.revision.Revision.TheVariants.{V2019}
use Rattle.vd_resolved.specs.Trees.{ResolvedTree}
use Rattle.vd_design_facts.specs.Designs.{designed}

abbrev pub declarations : List Declaration
declarations =
    declared class.Entity (codes "t") None []
    ∷ declared class.Architecture (codes "a") None []
    ∷ declared class.EnumerationType (codes "state") None []
    ∷ declared class.EnumerationLiteral (codes "idle") (Some 465) []
    ∷ declared class.EnumerationLiteral (codes "busy") (Some 465) []
    ∷ declared class.Parameter (codes "l") (Some 465) []
    ∷ declared class.Parameter (codes "r") (Some 465) []
    ∷ declared class.Parameter (codes "l") (Some INTEGER) []
    ∷ declared class.Parameter (codes "r") (Some INTEGER) []
    ∷ declared class.PredefinedOperator (codes "\"=\"") (Some BOOLEAN) (468 ∷ 469 ∷ [])
    ∷ declared class.PredefinedOperator (codes "\"/=\"") (Some BOOLEAN) (468 ∷ 469 ∷ [])
    ∷ declared class.PredefinedOperator (codes "\"<\"") (Some BOOLEAN) (468 ∷ 469 ∷ [])
    ∷ declared class.PredefinedOperator (codes "\"<=\"") (Some BOOLEAN) (468 ∷ 469 ∷ [])
    ∷ declared class.PredefinedOperator (codes "\">\"") (Some BOOLEAN) (468 ∷ 469 ∷ [])
    ∷ declared class.PredefinedOperator (codes "\">=\"") (Some BOOLEAN) (468 ∷ 469 ∷ [])
    ∷ declared (class.ArrayType 465 BIT BIT) (codes "flags") None []
    ∷ declared class.Parameter (codes "l") (Some 478) []
    ∷ declared class.Parameter (codes "r") (Some 478) []
    ∷ declared class.Parameter (codes "l") (Some BIT) []
    ∷ declared class.Parameter (codes "r") (Some BIT) []
    ∷ declared class.Parameter (codes "l") (Some INTEGER) []
    ∷ declared class.Parameter (codes "r") (Some INTEGER) []
    ∷ declared class.PredefinedOperator (codes "\"=\"") (Some BOOLEAN) (479 ∷ 480 ∷ [])
    ∷ declared class.PredefinedOperator (codes "\"/=\"") (Some BOOLEAN) (479 ∷ 480 ∷ [])
    ∷ declared class.PredefinedOperator (codes "\"<\"") (Some BOOLEAN) (479 ∷ 480 ∷ [])
    ∷ declared class.PredefinedOperator (codes "\"<=\"") (Some BOOLEAN) (479 ∷ 480 ∷ [])
    ∷ declared class.PredefinedOperator (codes "\">\"") (Some BOOLEAN) (479 ∷ 480 ∷ [])
    ∷ declared class.PredefinedOperator (codes "\">=\"") (Some BOOLEAN) (479 ∷ 480 ∷ [])
    ∷ declared class.PredefinedOperator (codes "\"and\"") (Some 478) (479 ∷ 480 ∷ [])
    ∷ declared class.PredefinedOperator (codes "\"or\"") (Some 478) (479 ∷ 480 ∷ [])
    ∷ declared class.PredefinedOperator (codes "\"nand\"") (Some 478) (479 ∷ 480 ∷ [])
    ∷ declared class.PredefinedOperator (codes "\"nor\"") (Some 478) (479 ∷ 480 ∷ [])
    ∷ declared class.PredefinedOperator (codes "\"xor\"") (Some 478) (479 ∷ 480 ∷ [])
    ∷ declared class.PredefinedOperator (codes "\"xnor\"") (Some 478) (479 ∷ 480 ∷ [])
    ∷ declared class.PredefinedOperator (codes "\"not\"") (Some 478) (479 ∷ [])
    ∷ declared class.PredefinedOperator (codes "\"sll\"") (Some 478) (479 ∷ 484 ∷ [])
    ∷ declared class.PredefinedOperator (codes "\"srl\"") (Some 478) (479 ∷ 484 ∷ [])
    ∷ declared class.PredefinedOperator (codes "\"sla\"") (Some 478) (479 ∷ 484 ∷ [])
    ∷ declared class.PredefinedOperator (codes "\"sra\"") (Some 478) (479 ∷ 484 ∷ [])
    ∷ declared class.PredefinedOperator (codes "\"rol\"") (Some 478) (479 ∷ 484 ∷ [])
    ∷ declared class.PredefinedOperator (codes "\"ror\"") (Some 478) (479 ∷ 484 ∷ [])
    ∷ declared class.PredefinedOperator (codes "\"&\"") (Some 478) (479 ∷ 480 ∷ [])
    ∷ declared class.PredefinedOperator (codes "\"&\"") (Some 478) (479 ∷ 482 ∷ [])
    ∷ declared class.PredefinedOperator (codes "\"&\"") (Some 478) (481 ∷ 480 ∷ [])
    ∷ declared class.PredefinedOperator (codes "\"&\"") (Some 478) (481 ∷ 482 ∷ [])
    ∷ declared (class.ArrayType CHARACTER INTEGER INTEGER) (codes "tags") None []
    ∷ declared class.Parameter (codes "l") (Some 508) []
    ∷ declared class.Parameter (codes "r") (Some 508) []
    ∷ declared class.Parameter (codes "l") (Some INTEGER) []
    ∷ declared class.Parameter (codes "r") (Some INTEGER) []
    ∷ declared class.Parameter (codes "l") (Some INTEGER) []
    ∷ declared class.Parameter (codes "r") (Some INTEGER) []
    ∷ declared class.PredefinedOperator (codes "\"=\"") (Some BOOLEAN) (509 ∷ 510 ∷ [])
    ∷ declared class.PredefinedOperator (codes "\"/=\"") (Some BOOLEAN) (509 ∷ 510 ∷ [])
    ∷ declared class.PredefinedOperator (codes "\"<\"") (Some BOOLEAN) (509 ∷ 510 ∷ [])
    ∷ declared class.PredefinedOperator (codes "\"<=\"") (Some BOOLEAN) (509 ∷ 510 ∷ [])
    ∷ declared class.PredefinedOperator (codes "\">\"") (Some BOOLEAN) (509 ∷ 510 ∷ [])
    ∷ declared class.PredefinedOperator (codes "\">=\"") (Some BOOLEAN) (509 ∷ 510 ∷ [])
    ∷ declared class.PredefinedOperator (codes "\"&\"") (Some 508) (509 ∷ 510 ∷ [])
    ∷ declared class.PredefinedOperator (codes "\"&\"") (Some 508) (509 ∷ 512 ∷ [])
    ∷ declared class.PredefinedOperator (codes "\"&\"") (Some 508) (511 ∷ 510 ∷ [])
    ∷ declared class.PredefinedOperator (codes "\"&\"") (Some 508) (511 ∷ 512 ∷ [])
    ∷ declared class.Signal (codes "f") (Some 478) []
    ∷ declared class.Signal (codes "g") (Some 508) []
    ∷ declared class.Label (codes "l") None []
    ∷ declared class.GenerateParameter (codes "i") (Some 465) []
    ∷ declared class.Signal (codes "r") (Some BIT) [] ∷ []

abbrev pub entity_t : Forest Resolved
entity_t =
    plain form.DesignUnit
    (plain form.ContextClause []
    ∷ plain form.EntityDeclaration
    (node form.Identifier (Some 463) None 0 (codes "t") [] ∷ absent ∷ absent ∷ plain form.Closing (plain form.ClosingWord [] ∷ absent ∷ []) ∷ []) ∷ [])

abbrev pub architecture_a_of_t : Forest Resolved
architecture_a_of_t =
    plain form.DesignUnit
    (plain form.ContextClause []
    ∷ plain form.ArchitectureBody
    (node form.Identifier (Some 464) None 0 (codes "a") [] ∷ node form.Identifier (Some 463) None 0 (codes "t") []
    ∷ plain form.DeclarativePart
    (node form.TypeDeclaration (Some 465) None 0 []
    (node form.Identifier (Some 465) None 0 (codes "state") []
    ∷ plain form.EnumerationType (node form.Identifier (Some 466) None 0 (codes "idle") [] ∷ node form.Identifier (Some 467) None 0 (codes "busy") [] ∷ []) ∷ [])
    ∷ node form.TypeDeclaration (Some 478) None 0 []
    (node form.Identifier (Some 478) None 0 (codes "flags") []
    ∷ plain form.ArrayType
    (of form.Name 465 (node form.Identifier (Some 465) None 0 (codes "state") [] ∷ [])
    ∷ plain form.SubtypeIndication (node form.SelectedName (Some BIT) None 0 [] (leaf form.Identifier (codes "bit") ∷ []) ∷ absent ∷ []) ∷ []) ∷ [])
    ∷ node form.TypeDeclaration (Some 508) None 0 []
    (node form.Identifier (Some 508) None 0 (codes "tags") []
    ∷ plain form.ArrayType
    (of form.DiscreteSubtype CHARACTER
    (plain form.Name (node form.Identifier (Some CHARACTER) None 0 (codes "character") [] ∷ [])
    ∷ of form.Ascending CHARACTER
    (node form.Letter (Some 109) (Some CHARACTER) 97 (codes "a") [] ∷ node form.Letter (Some 110) (Some CHARACTER) 98 (codes "b") [] ∷ []) ∷ [])
    ∷ plain form.SubtypeIndication (node form.SelectedName (Some INTEGER) None 0 [] (leaf form.Identifier (codes "integer") ∷ []) ∷ absent ∷ []) ∷ []) ∷ [])
    ∷ plain form.SignalDeclaration
    (plain form.IdentifierList (node form.Identifier (Some 525) None 0 (codes "f") [] ∷ [])
    ∷ plain form.SubtypeIndication (node form.SelectedName (Some 478) None 0 [] (leaf form.Identifier (codes "flags") ∷ []) ∷ absent ∷ []) ∷ absent ∷ [])
    ∷ plain form.SignalDeclaration
    (plain form.IdentifierList (node form.Identifier (Some 526) None 0 (codes "g") [] ∷ [])
    ∷ plain form.SubtypeIndication (node form.SelectedName (Some 508) None 0 [] (leaf form.Identifier (codes "tags") ∷ []) ∷ absent ∷ []) ∷ absent ∷ []) ∷ [])
    ∷ plain form.StatementPart
    (plain form.LabelledConcurrent
    (node form.Identifier (Some 527) None 0 (codes "l") []
    ∷ node form.ForGenerate (Some 528) None 0 []
    (node form.Identifier (Some 528) None 0 (codes "i") [] ∷ of form.Name 465 (node form.Identifier (Some 465) None 0 (codes "state") [] ∷ [])
    ∷ plain form.GenerateBody
    (plain form.DeclarativePart
    (plain form.SignalDeclaration
    (plain form.IdentifierList (node form.Identifier (Some 529) None 0 (codes "r") [] ∷ [])
    ∷ plain form.SubtypeIndication (node form.SelectedName (Some BIT) None 0 [] (leaf form.Identifier (codes "bit") ∷ []) ∷ absent ∷ []) ∷ absent ∷ []) ∷ [])
    ∷ plain form.ConcurrentAssignment
    (of form.Name BIT
    (node form.Identifier (Some 525) (Some 478) 0 (codes "f") []
    ∷ of form.Arguments BIT (of form.Name 465 (node form.Identifier (Some 528) (Some 465) 0 (codes "i") [] ∷ []) ∷ []) ∷ [])
    ∷ absent ∷ node form.Letter (Some 10) (Some BIT) 1 (codes "1") [] ∷ [])
    ∷ plain form.ConcurrentAssignment
    (of form.Name BIT (node form.Identifier (Some 529) (Some BIT) 0 (codes "r") [] ∷ []) ∷ absent
    ∷ of form.Name BIT
    (node form.Identifier (Some 525) (Some 478) 0 (codes "f") []
    ∷ of form.Arguments BIT (of form.Name 465 (node form.Identifier (Some 528) (Some 465) 0 (codes "i") [] ∷ []) ∷ []) ∷ []) ∷ []) ∷ [])
    ∷ absent ∷ []) ∷ []) ∷ [])
    ∷ plain form.Closing (plain form.ClosingWord [] ∷ absent ∷ []) ∷ []) ∷ [])

abbrev pub design : ResolvedTree
design = designed V2019 (entity_t ∷ architecture_a_of_t ∷ []) declarations
