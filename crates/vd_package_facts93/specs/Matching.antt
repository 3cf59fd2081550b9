-- The tree of a design. Written by tools/resolved-trees from examples/worked/matching_93.vhd, which is of revision 1993:
--
-- library ieee;
-- use ieee.std_logic_1164.all;
-- package vdown_support is
--   function vd_eq(l : std_ulogic; r : std_ulogic) return std_ulogic;
--   function vd_eqv(l : std_ulogic_vector; r : std_ulogic_vector) return std_ulogic;
--   function vd_dash(a : std_ulogic_vector) return boolean;
-- end package vdown_support;
-- package body vdown_support is
--   function vd_eq(l : std_ulogic; r : std_ulogic) return std_ulogic is
--   begin
--     if (l = '-') or (r = '-') then
--       return '1';
--     end if;
--     return not (l xor r);
--   end;
--   function vd_eqv(l : std_ulogic_vector; r : std_ulogic_vector) return std_ulogic is
--     constant first : std_ulogic_vector := l & "";
--     constant second : std_ulogic_vector(first'range) := r;
--     variable result : std_ulogic := '1';
--   begin
--     for i in first'range loop
--       result := result and vd_eq(first(i), second(i));
--     end loop;
--     return result;
--   end;
--   function vd_dash(a : std_ulogic_vector) return boolean is
--     constant elements : std_ulogic_vector := a & "";
--   begin
--     for i in elements'range loop
--       if elements(i) = '-' then
--         return true;
--       end if;
--     end loop;
--     return false;
--   end;
-- end package body vdown_support;
-- library ieee;
-- use ieee.std_logic_1164.all;
-- entity m is
-- end entity m;
-- architecture a of m is
--   signal sel : std_ulogic_vector(2 downto 0) := "0-1";
-- begin
--   process (sel) is
--     variable sel_2 : std_ulogic_vector(1 to 3);
--   begin
--     sel_2 := sel;
--     if work.vdown_support.vd_dash(sel_2) then
--       report "vdown: matching case selector holds '-'" severity failure;
--     elsif work.vdown_support.vd_eqv(sel_2, "1--") = '1' then
--       report "first";
--     else
--       report "other";
--     end if;
--   end process;
-- end architecture a;
use Rattle.std.specs.Prelude.{List, [], ◌∷◌, Some, None, codes}
use Rattle.vd_declarations.specs.declared.classes.Class.TheVariants as class
use Rattle.vd_declarations.specs.declared.declarations.Declaration.{Declaration}
use Rattle.vd_forest.specs.Forest.{Forest}
use Rattle.vd_forms.specs.declared.form.Form.TheVariants as form
use Rattle.vd_resolved.specs.declared.node.Resolved.{Resolved}
use Rattle.vd_predefined.specs.Entries.{declared}
use Rattle.vd_predefined.specs.declared.numbers.TheConstants.{BOOLEAN, SEVERITY_LEVEL, INTEGER, STRING, STD_ULOGIC, STD_ULOGIC_VECTOR}
use Rattle.vd_meaning_facts.specs.Trees.{node, plain, absent, of, leaf}
use Rattle.vd_trees.specs.declared.revision.Revision.TheVariants.{V1993}
use Rattle.vd_resolved.specs.Trees.{ResolvedTree}
use Rattle.vd_design_facts.specs.Designs.{designed}
use Rattle.vd_package_facts93.specs.Support.{package_vdown_support, body_of_vdown_support}

abbrev pub declarations : List Declaration
declarations =
    declared (class.LibraryName 2) (codes "ieee") None []
    ∷ declared class.Package (codes "vdown_support") None []
    ∷ declared class.Parameter (codes "l") (Some STD_ULOGIC) []
    ∷ declared class.Parameter (codes "r") (Some STD_ULOGIC) []
    ∷ declared class.Function (codes "vd_eq") (Some STD_ULOGIC) (389 ∷ 390 ∷ [])
    ∷ declared class.Parameter (codes "l") (Some STD_ULOGIC_VECTOR) []
    ∷ declared class.Parameter (codes "r") (Some STD_ULOGIC_VECTOR) []
    ∷ declared class.Function (codes "vd_eqv") (Some STD_ULOGIC) (392 ∷ 393 ∷ [])
    ∷ declared class.Parameter (codes "a") (Some STD_ULOGIC_VECTOR) []
    ∷ declared class.Function (codes "vd_dash") (Some BOOLEAN) (395 ∷ [])
    ∷ declared class.Constant (codes "first") (Some STD_ULOGIC_VECTOR) []
    ∷ declared class.Constant (codes "second") (Some STD_ULOGIC_VECTOR) []
    ∷ declared class.Variable (codes "result") (Some STD_ULOGIC) []
    ∷ declared class.LoopParameter (codes "i") (Some INTEGER) []
    ∷ declared class.Constant (codes "elements") (Some STD_ULOGIC_VECTOR) []
    ∷ declared class.LoopParameter (codes "i") (Some INTEGER) []
    ∷ declared (class.LibraryName 2) (codes "ieee") None []
    ∷ declared class.Entity (codes "m") None []
    ∷ declared class.Architecture (codes "a") None []
    ∷ declared class.Signal (codes "sel") (Some STD_ULOGIC_VECTOR) []
    ∷ declared class.Variable (codes "sel_2") (Some STD_ULOGIC_VECTOR) [] ∷ []

abbrev pub entity_m : Forest Resolved
entity_m =
    plain form.DesignUnit
    (plain form.ContextClause
    (plain form.LibraryClause (node form.Identifier (Some 403) None 0 (codes "ieee") [] ∷ [])
    ∷ plain form.UseClause
    (node form.SelectedName (Some 4) None 0 []
    (leaf form.Identifier (codes "ieee") ∷ leaf form.Identifier (codes "std_logic_1164") ∷ plain form.All [] ∷ []) ∷ []) ∷ [])
    ∷ plain form.EntityDeclaration
    (node form.Identifier (Some 404) None 0 (codes "m") [] ∷ absent ∷ absent
    ∷ plain form.Closing (plain form.ClosingWord [] ∷ leaf form.Identifier (codes "m") ∷ []) ∷ []) ∷ [])

abbrev pub architecture_a_of_m : Forest Resolved
architecture_a_of_m =
    plain form.DesignUnit
    (plain form.ContextClause []
    ∷ plain form.ArchitectureBody
    (node form.Identifier (Some 405) None 0 (codes "a") [] ∷ node form.Identifier (Some 404) None 0 (codes "m") []
    ∷ plain form.DeclarativePart
    (plain form.SignalDeclaration
    (plain form.IdentifierList (node form.Identifier (Some 406) None 0 (codes "sel") [] ∷ [])
    ∷ plain form.SubtypeIndication
    (node form.SelectedName (Some STD_ULOGIC_VECTOR) None 0 [] (leaf form.Identifier (codes "std_ulogic_vector") ∷ [])
    ∷ plain form.IndexConstraint
    (of form.Descending INTEGER (node form.Number None (Some INTEGER) 0 (codes "2") [] ∷ node form.Number None (Some INTEGER) 0 (codes "0") [] ∷ []) ∷ []) ∷ [])
    ∷ node form.Quoted None (Some STD_ULOGIC_VECTOR) 0 (codes "0-1") [] ∷ []) ∷ [])
    ∷ plain form.StatementPart
    (plain form.ProcessStatement
    (plain form.SensitivityList (of form.Name STD_ULOGIC_VECTOR (node form.Identifier (Some 406) (Some STD_ULOGIC_VECTOR) 0 (codes "sel") [] ∷ []) ∷ [])
    ∷ plain form.Is []
    ∷ plain form.DeclarativePart
    (plain form.VariableDeclaration
    (plain form.IdentifierList (node form.Identifier (Some 407) None 0 (codes "sel_2") [] ∷ [])
    ∷ plain form.SubtypeIndication
    (node form.SelectedName (Some STD_ULOGIC_VECTOR) None 0 [] (leaf form.Identifier (codes "std_ulogic_vector") ∷ [])
    ∷ plain form.IndexConstraint
    (of form.Ascending INTEGER (node form.Number None (Some INTEGER) 0 (codes "1") [] ∷ node form.Number None (Some INTEGER) 0 (codes "3") [] ∷ []) ∷ []) ∷ [])
    ∷ absent ∷ []) ∷ [])
    ∷ plain form.Statements
    (plain form.VariableAssignment
    (of form.Name STD_ULOGIC_VECTOR (node form.Identifier (Some 407) (Some STD_ULOGIC_VECTOR) 0 (codes "sel_2") [] ∷ [])
    ∷ of form.Name STD_ULOGIC_VECTOR (node form.Identifier (Some 406) (Some STD_ULOGIC_VECTOR) 0 (codes "sel") [] ∷ []) ∷ [])
    ∷ plain form.IfStatement
    (of form.Name BOOLEAN
    (node form.Identifier (Some 0) None 0 (codes "work") [] ∷ node form.Selection (Some 388) None 0 [] (leaf form.Identifier (codes "vdown_support") ∷ [])
    ∷ node form.Selection (Some 396) None 0 [] (leaf form.Identifier (codes "vd_dash") ∷ [])
    ∷ node form.Arguments (Some 396) (Some BOOLEAN) 0 []
    (of form.Name STD_ULOGIC_VECTOR (node form.Identifier (Some 407) (Some STD_ULOGIC_VECTOR) 0 (codes "sel_2") [] ∷ []) ∷ []) ∷ [])
    ∷ plain form.Statements
    (plain form.ReportStatement
    (node form.Quoted None (Some STRING) 0 (codes "vdown: matching case selector holds '-'") []
    ∷ of form.Name SEVERITY_LEVEL (node form.Identifier (Some 144) (Some SEVERITY_LEVEL) 3 (codes "failure") [] ∷ []) ∷ []) ∷ [])
    ∷ plain form.ElsifBranches
    (plain form.ElsifBranch
    (node form.Equal (Some 315) (Some BOOLEAN) 0 []
    (of form.Name STD_ULOGIC
    (node form.Identifier (Some 0) None 0 (codes "work") [] ∷ node form.Selection (Some 388) None 0 [] (leaf form.Identifier (codes "vdown_support") ∷ [])
    ∷ node form.Selection (Some 394) None 0 [] (leaf form.Identifier (codes "vd_eqv") ∷ [])
    ∷ node form.Arguments (Some 394) (Some STD_ULOGIC) 0 []
    (of form.Name STD_ULOGIC_VECTOR (node form.Identifier (Some 407) (Some STD_ULOGIC_VECTOR) 0 (codes "sel_2") [] ∷ [])
    ∷ node form.Quoted None (Some STD_ULOGIC_VECTOR) 0 (codes "1--") [] ∷ []) ∷ [])
    ∷ node form.Letter (Some 164) (Some STD_ULOGIC) 3 (codes "1") [] ∷ [])
    ∷ plain form.Statements (plain form.ReportStatement (node form.Quoted None (Some STRING) 0 (codes "first") [] ∷ absent ∷ []) ∷ []) ∷ []) ∷ [])
    ∷ plain form.ElseBranch (plain form.ReportStatement (node form.Quoted None (Some STRING) 0 (codes "other") [] ∷ absent ∷ []) ∷ []) ∷ absent ∷ []) ∷ [])
    ∷ absent ∷ []) ∷ [])
    ∷ plain form.Closing (plain form.ClosingWord [] ∷ leaf form.Identifier (codes "a") ∷ []) ∷ []) ∷ [])

abbrev pub design : ResolvedTree
design = designed V1993 (package_vdown_support ∷ body_of_vdown_support ∷ entity_m ∷ architecture_a_of_m ∷ []) declarations
