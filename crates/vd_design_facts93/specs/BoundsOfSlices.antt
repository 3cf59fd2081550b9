-- The tree of a design. Written by tools/resolved-trees from examples/worked/bounds_93.vhd, which is of revision 1993:
--
-- library ieee;
-- use ieee.std_logic_1164.all;
-- entity b is
-- end entity b;
-- architecture a of b is
--   function f(x : std_ulogic_vector) return integer is
--   begin
--     return x'left;
--   end;
--   signal s : std_logic_vector(7 downto 0);
--   signal n : integer := 0;
-- begin
--   process (s(7 downto 4)) is
--   begin
--     n <= f(std_ulogic_vector(s(7 downto 4)));
--   end process;
-- end architecture a;
use Rattle.std.specs.Prelude.{List, [], ◌∷◌, Some, None, codes}
use Rattle.vd_declarations.specs.declared.classes.Class.TheVariants as class
use Rattle.vd_declarations.specs.declared.declarations.Declaration.{Declaration}
use Rattle.vd_forest.specs.Forest.{Forest}
use Rattle.vd_forms.specs.declared.form.Form.TheVariants as form
use Rattle.vd_resolved.specs.declared.node.Resolved.{Resolved}
use Rattle.vd_predefined.specs.Entries.{declared}
use Rattle.vd_predefined.specs.declared.numbers.TheConstants.{INTEGER, STD_ULOGIC_VECTOR, STD_LOGIC_VECTOR}
use Rattle.vd_meaning_facts.specs.Trees.{node, plain, absent, of, leaf}
use Rattle.vd_trees.specs.declared.revision.Revision.TheVariants.{V1993}
use Rattle.vd_resolved.specs.Trees.{ResolvedTree}
use Rattle.vd_design_facts.specs.Designs.{designed}

abbrev pub declarations : List Declaration
declarations =
    declared (class.LibraryName 2) (codes "ieee") None []
    ∷ declared class.Entity (codes "b") None []
    ∷ declared class.Architecture (codes "a") None []
    ∷ declared class.Parameter (codes "x") (Some STD_ULOGIC_VECTOR) []
    ∷ declared class.Function (codes "f") (Some INTEGER) (390 ∷ [])
    ∷ declared class.Signal (codes "s") (Some STD_LOGIC_VECTOR) []
    ∷ declared class.Signal (codes "n") (Some INTEGER) [] ∷ []

abbrev pub entity_b : Forest Resolved
entity_b =
    plain form.DesignUnit
    (plain form.ContextClause
    (plain form.LibraryClause (node form.Identifier (Some 387) None 0 (codes "ieee") [] ∷ [])
    ∷ plain form.UseClause
    (node form.SelectedName (Some 4) None 0 []
    (leaf form.Identifier (codes "ieee") ∷ leaf form.Identifier (codes "std_logic_1164") ∷ plain form.All [] ∷ []) ∷ []) ∷ [])
    ∷ plain form.EntityDeclaration
    (node form.Identifier (Some 388) None 0 (codes "b") [] ∷ absent ∷ absent
    ∷ plain form.Closing (plain form.ClosingWord [] ∷ leaf form.Identifier (codes "b") ∷ []) ∷ []) ∷ [])

abbrev pub architecture_a_of_b : Forest Resolved
architecture_a_of_b =
    plain form.DesignUnit
    (plain form.ContextClause []
    ∷ plain form.ArchitectureBody
    (node form.Identifier (Some 389) None 0 (codes "a") [] ∷ node form.Identifier (Some 388) None 0 (codes "b") []
    ∷ plain form.DeclarativePart
    (node form.FunctionBody (Some 391) None 0 []
    (absent ∷ node form.Identifier (Some 391) None 0 (codes "f") [] ∷ absent ∷ absent
    ∷ plain form.ParameterList
    (plain form.ParameterDeclaration
    (absent ∷ plain form.IdentifierList (node form.Identifier (Some 390) None 0 (codes "x") [] ∷ []) ∷ absent
    ∷ plain form.SubtypeIndication
    (node form.SelectedName (Some STD_ULOGIC_VECTOR) None 0 [] (leaf form.Identifier (codes "std_ulogic_vector") ∷ []) ∷ absent ∷ []) ∷ []) ∷ [])
    ∷ node form.SelectedName (Some INTEGER) None 0 [] (leaf form.Identifier (codes "integer") ∷ []) ∷ plain form.DeclarativePart []
    ∷ plain form.Statements
    (plain form.ReturnStatement
    (of form.Name INTEGER
    (node form.Identifier (Some 390) (Some STD_ULOGIC_VECTOR) 0 (codes "x") [] ∷ of form.Attribute INTEGER (leaf form.Identifier (codes "left") ∷ []) ∷ []) ∷ []) ∷ [])
    ∷ plain form.FunctionClosing (absent ∷ absent ∷ []) ∷ [])
    ∷ plain form.SignalDeclaration
    (plain form.IdentifierList (node form.Identifier (Some 392) None 0 (codes "s") [] ∷ [])
    ∷ plain form.SubtypeIndication
    (node form.SelectedName (Some STD_LOGIC_VECTOR) None 0 [] (leaf form.Identifier (codes "std_logic_vector") ∷ [])
    ∷ plain form.IndexConstraint
    (of form.Descending INTEGER (node form.Number None (Some INTEGER) 0 (codes "7") [] ∷ node form.Number None (Some INTEGER) 0 (codes "0") [] ∷ []) ∷ []) ∷ [])
    ∷ absent ∷ [])
    ∷ plain form.SignalDeclaration
    (plain form.IdentifierList (node form.Identifier (Some 393) None 0 (codes "n") [] ∷ [])
    ∷ plain form.SubtypeIndication (node form.SelectedName (Some INTEGER) None 0 [] (leaf form.Identifier (codes "integer") ∷ []) ∷ absent ∷ [])
    ∷ node form.Number None (Some INTEGER) 0 (codes "0") [] ∷ []) ∷ [])
    ∷ plain form.StatementPart
    (plain form.ProcessStatement
    (plain form.SensitivityList
    (of form.Name STD_LOGIC_VECTOR
    (node form.Identifier (Some 392) (Some STD_LOGIC_VECTOR) 0 (codes "s") []
    ∷ of form.Arguments STD_LOGIC_VECTOR
    (of form.Descending INTEGER (node form.Number None (Some INTEGER) 0 (codes "7") [] ∷ node form.Number None (Some INTEGER) 0 (codes "4") [] ∷ []) ∷ []) ∷ []) ∷ [])
    ∷ plain form.Is [] ∷ plain form.DeclarativePart []
    ∷ plain form.Statements
    (plain form.SignalAssignment
    (of form.Name INTEGER (node form.Identifier (Some 393) (Some INTEGER) 0 (codes "n") [] ∷ []) ∷ absent
    ∷ of form.Name INTEGER
    (node form.Identifier (Some 391) None 0 (codes "f") []
    ∷ node form.Arguments (Some 391) (Some INTEGER) 0 []
    (of form.Name STD_ULOGIC_VECTOR
    (node form.Identifier (Some STD_ULOGIC_VECTOR) None 0 (codes "std_ulogic_vector") []
    ∷ node form.Arguments (Some STD_ULOGIC_VECTOR) (Some STD_ULOGIC_VECTOR) 0 []
    (of form.Name STD_LOGIC_VECTOR
    (node form.Identifier (Some 392) (Some STD_LOGIC_VECTOR) 0 (codes "s") []
    ∷ of form.Arguments STD_LOGIC_VECTOR
    (of form.Descending INTEGER (node form.Number None (Some INTEGER) 0 (codes "7") [] ∷ node form.Number None (Some INTEGER) 0 (codes "4") [] ∷ []) ∷ []) ∷ []) ∷ []) ∷ []) ∷ []) ∷ []) ∷ []) ∷ [])
    ∷ absent ∷ []) ∷ [])
    ∷ plain form.Closing (plain form.ClosingWord [] ∷ leaf form.Identifier (codes "a") ∷ []) ∷ []) ∷ [])

abbrev pub design : ResolvedTree
design = designed V1993 (entity_b ∷ architecture_a_of_b ∷ []) declarations
