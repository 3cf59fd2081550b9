-- The tree of a design. Written by tools/resolved-trees from examples/worked/links_93.vhd, which is of revision 1993:
--
-- library ieee;
-- use ieee.std_logic_1164.all;
-- package vdown_support is
--   function vd_eq(l : std_ulogic; r : std_ulogic) return std_ulogic;
--   function vd_eqv(l : std_ulogic_vector; r : std_ulogic_vector) return std_ulogic;
--   function vd_dash(a : std_ulogic_vector) return boolean;
-- end package vdown_support;
-- package body vdown_support is
--   function vd_eq(l : std_ulogic; r : std_ulogic) return std_ulogic is
--   begin
--     if (l = '-') or (r = '-') then
--       return '1';
--     end if;
--     return not (l xor r);
--   end;
--   function vd_eqv(l : std_ulogic_vector; r : std_ulogic_vector) return std_ulogic is
--     constant first : std_ulogic_vector := l & "";
--     constant second : std_ulogic_vector(first'range) := r;
--     variable result : std_ulogic := '1';
--   begin
--     for i in first'range loop
--       result := result and vd_eq(first(i), second(i));
--     end loop;
--     return result;
--   end;
--   function vd_dash(a : std_ulogic_vector) return boolean is
--     constant elements : std_ulogic_vector := a & "";
--   begin
--     for i in elements'range loop
--       if elements(i) = '-' then
--         return true;
--       end if;
--     end loop;
--     return false;
--   end;
-- end package body vdown_support;
-- library ieee;
-- use ieee.std_logic_1164.all;
-- package bulk_pk is
--   type link_r is record
--     d : std_ulogic;
--     r : std_ulogic;
--   end record;
-- end package bulk_pk;
-- library ieee;
-- use ieee.std_logic_1164.all;
-- entity u_1 is
--   port (i_d : in std_ulogic; i_r : out std_ulogic; o_d : out std_ulogic; o_r : in std_ulogic);
-- end entity u_1;
-- architecture r of u_1 is
-- begin
--   process (i_d, o_r) is
--     variable sel : std_ulogic_vector(1 to 2);
--   begin
--     sel := i_d & o_r;
--     if work.vdown_support.vd_dash(sel) then
--       report "vdown: matching case selector holds '-'" severity failure;
--     elsif work.vdown_support.vd_eqv(sel, "1-") = '1' then
--       o_d <= '1';
--     elsif work.vdown_support.vd_eqv(sel, "0-") = '1' then
--       o_d <= '0';
--     else
--       o_d <= 'X';
--     end if;
--     i_r <= o_r;
--   end process;
-- end architecture r;
-- library ieee;
-- use ieee.std_logic_1164.all;
-- entity bulk_top is
-- end entity bulk_top;
-- architecture r of bulk_top is
--   signal l_0 : work.bulk_pk.link_r;
--   signal l_1 : work.bulk_pk.link_r;
-- begin
--   process is
--   begin
--     l_0.d <= '0';
--     wait for 5 ns;
--     l_0.d <= '1';
--     wait for 5 ns;
--   end process;
--   l_1.r <= '1';
--   d_1 : entity work.u_1 port map (i_d => l_0.d, i_r => l_0.r, o_d => l_1.d, o_r => l_1.r);
-- end architecture r;
use Rattle.std.specs.Prelude.{List, [], ◌∷◌, Some, None, codes}
use Rattle.vd_declarations.specs.declared.classes.Class.TheVariants as class
use Rattle.vd_declarations.specs.declared.declarations.Declaration.{Declaration}
use Rattle.vd_forest.specs.Forest.{Forest}
use Rattle.vd_forms.specs.declared.form.Form.TheVariants as form
use Rattle.vd_resolved.specs.declared.node.Resolved.{Resolved}
use Rattle.vd_predefined.specs.Entries.{declared}
use Rattle.vd_predefined.specs.declared.numbers.TheConstants.{BOOLEAN, SEVERITY_LEVEL, INTEGER, TIME, STRING, STD_ULOGIC, STD_ULOGIC_VECTOR}
use Rattle.vd_meaning_facts.specs.Trees.{node, plain, absent, of, leaf}
use Rattle.vd_trees.specs.declared.revision.Revision.TheVariants.{V1993}
use Rattle.vd_resolved.specs.Trees.{ResolvedTree}
use Rattle.vd_design_facts.specs.Designs.{designed}
use Rattle.vd_package_facts93.specs.Support.{package_vdown_support, body_of_vdown_support}

abbrev pub declarations : List Declaration
declarations =
    declared (class.LibraryName 2) (codes "ieee") None []
    ∷ declared class.Package (codes "vdown_support") None []
    ∷ declared class.Parameter (codes "l") (Some STD_ULOGIC) []
    ∷ declared class.Parameter (codes "r") (Some STD_ULOGIC) []
    ∷ declared class.Function (codes "vd_eq") (Some STD_ULOGIC) (389 ∷ 390 ∷ [])
    ∷ declared class.Parameter (codes "l") (Some STD_ULOGIC_VECTOR) []
    ∷ declared class.Parameter (codes "r") (Some STD_ULOGIC_VECTOR) []
    ∷ declared class.Function (codes "vd_eqv") (Some STD_ULOGIC) (392 ∷ 393 ∷ [])
    ∷ declared class.Parameter (codes "a") (Some STD_ULOGIC_VECTOR) []
    ∷ declared class.Function (codes "vd_dash") (Some BOOLEAN) (395 ∷ [])
    ∷ declared class.Constant (codes "first") (Some STD_ULOGIC_VECTOR) []
    ∷ declared class.Constant (codes "second") (Some STD_ULOGIC_VECTOR) []
    ∷ declared class.Variable (codes "result") (Some STD_ULOGIC) []
    ∷ declared class.LoopParameter (codes "i") (Some INTEGER) []
    ∷ declared class.Constant (codes "elements") (Some STD_ULOGIC_VECTOR) []
    ∷ declared class.LoopParameter (codes "i") (Some INTEGER) []
    ∷ declared (class.LibraryName 2) (codes "ieee") None []
    ∷ declared class.Package (codes "bulk_pk") None []
    ∷ declared class.RecordType (codes "link_r") None (406 ∷ 407 ∷ [])
    ∷ declared class.RecordElement (codes "d") (Some STD_ULOGIC) []
    ∷ declared class.RecordElement (codes "r") (Some STD_ULOGIC) []
    ∷ declared class.Parameter (codes "l") (Some 405) []
    ∷ declared class.Parameter (codes "r") (Some 405) []
    ∷ declared class.Parameter (codes "l") (Some INTEGER) []
    ∷ declared class.Parameter (codes "r") (Some INTEGER) []
    ∷ declared class.PredefinedOperator (codes "\"=\"") (Some BOOLEAN) (408 ∷ 409 ∷ [])
    ∷ declared class.PredefinedOperator (codes "\"/=\"") (Some BOOLEAN) (408 ∷ 409 ∷ [])
    ∷ declared (class.LibraryName 2) (codes "ieee") None []
    ∷ declared class.Entity (codes "u_1") None (416 ∷ 417 ∷ 418 ∷ 419 ∷ [])
    ∷ declared class.Port (codes "i_d") (Some STD_ULOGIC) []
    ∷ declared class.Port (codes "i_r") (Some STD_ULOGIC) []
    ∷ declared class.Port (codes "o_d") (Some STD_ULOGIC) []
    ∷ declared class.Port (codes "o_r") (Some STD_ULOGIC) []
    ∷ declared class.Architecture (codes "r") None []
    ∷ declared class.Variable (codes "sel") (Some STD_ULOGIC_VECTOR) []
    ∷ declared (class.LibraryName 2) (codes "ieee") None []
    ∷ declared class.Entity (codes "bulk_top") None []
    ∷ declared class.Architecture (codes "r") None []
    ∷ declared class.Signal (codes "l_0") (Some 405) []
    ∷ declared class.Signal (codes "l_1") (Some 405) []
    ∷ declared class.Label (codes "d_1") None [] ∷ []

abbrev pub package_bulk_pk : Forest Resolved
package_bulk_pk =
    plain form.DesignUnit
    (plain form.ContextClause
    (plain form.LibraryClause (node form.Identifier (Some 403) None 0 (codes "ieee") [] ∷ [])
    ∷ plain form.UseClause
    (node form.SelectedName (Some 4) None 0 []
    (leaf form.Identifier (codes "ieee") ∷ leaf form.Identifier (codes "std_logic_1164") ∷ plain form.All [] ∷ []) ∷ []) ∷ [])
    ∷ plain form.PackageDeclaration
    (node form.Identifier (Some 404) None 0 (codes "bulk_pk") [] ∷ absent
    ∷ plain form.DeclarativePart
    (node form.TypeDeclaration (Some 405) None 0 []
    (node form.Identifier (Some 405) None 0 (codes "link_r") []
    ∷ plain form.RecordType
    (plain form.RecordElements
    (plain form.RecordElement
    (plain form.IdentifierList (node form.Identifier (Some 406) None 0 (codes "d") [] ∷ [])
    ∷ plain form.SubtypeIndication (node form.SelectedName (Some STD_ULOGIC) None 0 [] (leaf form.Identifier (codes "std_ulogic") ∷ []) ∷ absent ∷ []) ∷ [])
    ∷ plain form.RecordElement
    (plain form.IdentifierList (node form.Identifier (Some 407) None 0 (codes "r") [] ∷ [])
    ∷ plain form.SubtypeIndication (node form.SelectedName (Some STD_ULOGIC) None 0 [] (leaf form.Identifier (codes "std_ulogic") ∷ []) ∷ absent ∷ []) ∷ []) ∷ [])
    ∷ absent ∷ []) ∷ []) ∷ [])
    ∷ plain form.Closing (plain form.ClosingWord [] ∷ leaf form.Identifier (codes "bulk_pk") ∷ []) ∷ []) ∷ [])

abbrev pub entity_u_1 : Forest Resolved
entity_u_1 =
    plain form.DesignUnit
    (plain form.ContextClause
    (plain form.LibraryClause (node form.Identifier (Some 414) None 0 (codes "ieee") [] ∷ [])
    ∷ plain form.UseClause
    (node form.SelectedName (Some 4) None 0 []
    (leaf form.Identifier (codes "ieee") ∷ leaf form.Identifier (codes "std_logic_1164") ∷ plain form.All [] ∷ []) ∷ []) ∷ [])
    ∷ plain form.EntityDeclaration
    (node form.Identifier (Some 415) None 0 (codes "u_1") [] ∷ absent
    ∷ plain form.PortClause
    (plain form.PortDeclaration
    (absent ∷ plain form.IdentifierList (node form.Identifier (Some 416) None 0 (codes "i_d") [] ∷ []) ∷ plain form.In []
    ∷ plain form.SubtypeIndication (node form.SelectedName (Some STD_ULOGIC) None 0 [] (leaf form.Identifier (codes "std_ulogic") ∷ []) ∷ absent ∷ [])
    ∷ absent ∷ [])
    ∷ plain form.PortDeclaration
    (absent ∷ plain form.IdentifierList (node form.Identifier (Some 417) None 0 (codes "i_r") [] ∷ []) ∷ plain form.Out []
    ∷ plain form.SubtypeIndication (node form.SelectedName (Some STD_ULOGIC) None 0 [] (leaf form.Identifier (codes "std_ulogic") ∷ []) ∷ absent ∷ [])
    ∷ absent ∷ [])
    ∷ plain form.PortDeclaration
    (absent ∷ plain form.IdentifierList (node form.Identifier (Some 418) None 0 (codes "o_d") [] ∷ []) ∷ plain form.Out []
    ∷ plain form.SubtypeIndication (node form.SelectedName (Some STD_ULOGIC) None 0 [] (leaf form.Identifier (codes "std_ulogic") ∷ []) ∷ absent ∷ [])
    ∷ absent ∷ [])
    ∷ plain form.PortDeclaration
    (absent ∷ plain form.IdentifierList (node form.Identifier (Some 419) None 0 (codes "o_r") [] ∷ []) ∷ plain form.In []
    ∷ plain form.SubtypeIndication (node form.SelectedName (Some STD_ULOGIC) None 0 [] (leaf form.Identifier (codes "std_ulogic") ∷ []) ∷ absent ∷ [])
    ∷ absent ∷ []) ∷ [])
    ∷ plain form.Closing (plain form.ClosingWord [] ∷ leaf form.Identifier (codes "u_1") ∷ []) ∷ []) ∷ [])

abbrev pub architecture_r_of_u_1 : Forest Resolved
architecture_r_of_u_1 =
    plain form.DesignUnit
    (plain form.ContextClause []
    ∷ plain form.ArchitectureBody
    (node form.Identifier (Some 420) None 0 (codes "r") [] ∷ node form.Identifier (Some 415) None 0 (codes "u_1") [] ∷ plain form.DeclarativePart []
    ∷ plain form.StatementPart
    (plain form.ProcessStatement
    (plain form.SensitivityList
    (of form.Name STD_ULOGIC (node form.Identifier (Some 416) (Some STD_ULOGIC) 0 (codes "i_d") [] ∷ [])
    ∷ of form.Name STD_ULOGIC (node form.Identifier (Some 419) (Some STD_ULOGIC) 0 (codes "o_r") [] ∷ []) ∷ [])
    ∷ plain form.Is []
    ∷ plain form.DeclarativePart
    (plain form.VariableDeclaration
    (plain form.IdentifierList (node form.Identifier (Some 421) None 0 (codes "sel") [] ∷ [])
    ∷ plain form.SubtypeIndication
    (node form.SelectedName (Some STD_ULOGIC_VECTOR) None 0 [] (leaf form.Identifier (codes "std_ulogic_vector") ∷ [])
    ∷ plain form.IndexConstraint
    (of form.Ascending INTEGER (node form.Number None (Some INTEGER) 0 (codes "1") [] ∷ node form.Number None (Some INTEGER) 0 (codes "2") [] ∷ []) ∷ []) ∷ [])
    ∷ absent ∷ []) ∷ [])
    ∷ plain form.Statements
    (plain form.VariableAssignment
    (of form.Name STD_ULOGIC_VECTOR (node form.Identifier (Some 421) (Some STD_ULOGIC_VECTOR) 0 (codes "sel") [] ∷ [])
    ∷ node form.Concatenate (Some 336) (Some STD_ULOGIC_VECTOR) 0 []
    (of form.Name STD_ULOGIC (node form.Identifier (Some 416) (Some STD_ULOGIC) 0 (codes "i_d") [] ∷ [])
    ∷ of form.Name STD_ULOGIC (node form.Identifier (Some 419) (Some STD_ULOGIC) 0 (codes "o_r") [] ∷ []) ∷ []) ∷ [])
    ∷ plain form.IfStatement
    (of form.Name BOOLEAN
    (node form.Identifier (Some 0) None 0 (codes "work") [] ∷ node form.Selection (Some 388) None 0 [] (leaf form.Identifier (codes "vdown_support") ∷ [])
    ∷ node form.Selection (Some 396) None 0 [] (leaf form.Identifier (codes "vd_dash") ∷ [])
    ∷ node form.Arguments (Some 396) (Some BOOLEAN) 0 []
    (of form.Name STD_ULOGIC_VECTOR (node form.Identifier (Some 421) (Some STD_ULOGIC_VECTOR) 0 (codes "sel") [] ∷ []) ∷ []) ∷ [])
    ∷ plain form.Statements
    (plain form.ReportStatement
    (node form.Quoted None (Some STRING) 0 (codes "vdown: matching case selector holds '-'") []
    ∷ of form.Name SEVERITY_LEVEL (node form.Identifier (Some 144) (Some SEVERITY_LEVEL) 3 (codes "failure") [] ∷ []) ∷ []) ∷ [])
    ∷ plain form.ElsifBranches
    (plain form.ElsifBranch
    (node form.Equal (Some 315) (Some BOOLEAN) 0 []
    (of form.Name STD_ULOGIC
    (node form.Identifier (Some 0) None 0 (codes "work") [] ∷ node form.Selection (Some 388) None 0 [] (leaf form.Identifier (codes "vdown_support") ∷ [])
    ∷ node form.Selection (Some 394) None 0 [] (leaf form.Identifier (codes "vd_eqv") ∷ [])
    ∷ node form.Arguments (Some 394) (Some STD_ULOGIC) 0 []
    (of form.Name STD_ULOGIC_VECTOR (node form.Identifier (Some 421) (Some STD_ULOGIC_VECTOR) 0 (codes "sel") [] ∷ [])
    ∷ node form.Quoted None (Some STD_ULOGIC_VECTOR) 0 (codes "1-") [] ∷ []) ∷ [])
    ∷ node form.Letter (Some 164) (Some STD_ULOGIC) 3 (codes "1") [] ∷ [])
    ∷ plain form.Statements
    (plain form.SignalAssignment
    (of form.Name STD_ULOGIC (node form.Identifier (Some 418) (Some STD_ULOGIC) 0 (codes "o_d") [] ∷ []) ∷ absent
    ∷ node form.Letter (Some 164) (Some STD_ULOGIC) 3 (codes "1") [] ∷ []) ∷ []) ∷ [])
    ∷ plain form.ElsifBranch
    (node form.Equal (Some 315) (Some BOOLEAN) 0 []
    (of form.Name STD_ULOGIC
    (node form.Identifier (Some 0) None 0 (codes "work") [] ∷ node form.Selection (Some 388) None 0 [] (leaf form.Identifier (codes "vdown_support") ∷ [])
    ∷ node form.Selection (Some 394) None 0 [] (leaf form.Identifier (codes "vd_eqv") ∷ [])
    ∷ node form.Arguments (Some 394) (Some STD_ULOGIC) 0 []
    (of form.Name STD_ULOGIC_VECTOR (node form.Identifier (Some 421) (Some STD_ULOGIC_VECTOR) 0 (codes "sel") [] ∷ [])
    ∷ node form.Quoted None (Some STD_ULOGIC_VECTOR) 0 (codes "0-") [] ∷ []) ∷ [])
    ∷ node form.Letter (Some 164) (Some STD_ULOGIC) 3 (codes "1") [] ∷ [])
    ∷ plain form.Statements
    (plain form.SignalAssignment
    (of form.Name STD_ULOGIC (node form.Identifier (Some 418) (Some STD_ULOGIC) 0 (codes "o_d") [] ∷ []) ∷ absent
    ∷ node form.Letter (Some 163) (Some STD_ULOGIC) 2 (codes "0") [] ∷ []) ∷ []) ∷ []) ∷ [])
    ∷ plain form.ElseBranch
    (plain form.SignalAssignment
    (of form.Name STD_ULOGIC (node form.Identifier (Some 418) (Some STD_ULOGIC) 0 (codes "o_d") [] ∷ []) ∷ absent
    ∷ node form.Letter (Some 162) (Some STD_ULOGIC) 1 (codes "X") [] ∷ []) ∷ [])
    ∷ absent ∷ [])
    ∷ plain form.SignalAssignment
    (of form.Name STD_ULOGIC (node form.Identifier (Some 417) (Some STD_ULOGIC) 0 (codes "i_r") [] ∷ []) ∷ absent
    ∷ of form.Name STD_ULOGIC (node form.Identifier (Some 419) (Some STD_ULOGIC) 0 (codes "o_r") [] ∷ []) ∷ []) ∷ [])
    ∷ absent ∷ []) ∷ [])
    ∷ plain form.Closing (plain form.ClosingWord [] ∷ leaf form.Identifier (codes "r") ∷ []) ∷ []) ∷ [])

abbrev pub entity_bulk_top : Forest Resolved
entity_bulk_top =
    plain form.DesignUnit
    (plain form.ContextClause
    (plain form.LibraryClause (node form.Identifier (Some 422) None 0 (codes "ieee") [] ∷ [])
    ∷ plain form.UseClause
    (node form.SelectedName (Some 4) None 0 []
    (leaf form.Identifier (codes "ieee") ∷ leaf form.Identifier (codes "std_logic_1164") ∷ plain form.All [] ∷ []) ∷ []) ∷ [])
    ∷ plain form.EntityDeclaration
    (node form.Identifier (Some 423) None 0 (codes "bulk_top") [] ∷ absent ∷ absent
    ∷ plain form.Closing (plain form.ClosingWord [] ∷ leaf form.Identifier (codes "bulk_top") ∷ []) ∷ []) ∷ [])

abbrev pub architecture_r_of_bulk_top : Forest Resolved
architecture_r_of_bulk_top =
    plain form.DesignUnit
    (plain form.ContextClause []
    ∷ plain form.ArchitectureBody
    (node form.Identifier (Some 424) None 0 (codes "r") [] ∷ node form.Identifier (Some 423) None 0 (codes "bulk_top") []
    ∷ plain form.DeclarativePart
    (plain form.SignalDeclaration
    (plain form.IdentifierList (node form.Identifier (Some 425) None 0 (codes "l_0") [] ∷ [])
    ∷ plain form.SubtypeIndication
    (node form.SelectedName (Some 405) None 0 []
    (leaf form.Identifier (codes "work") ∷ leaf form.Identifier (codes "bulk_pk") ∷ leaf form.Identifier (codes "link_r") ∷ [])
    ∷ absent ∷ [])
    ∷ absent ∷ [])
    ∷ plain form.SignalDeclaration
    (plain form.IdentifierList (node form.Identifier (Some 426) None 0 (codes "l_1") [] ∷ [])
    ∷ plain form.SubtypeIndication
    (node form.SelectedName (Some 405) None 0 []
    (leaf form.Identifier (codes "work") ∷ leaf form.Identifier (codes "bulk_pk") ∷ leaf form.Identifier (codes "link_r") ∷ [])
    ∷ absent ∷ [])
    ∷ absent ∷ []) ∷ [])
    ∷ plain form.StatementPart
    (plain form.ProcessStatement
    (absent ∷ plain form.Is [] ∷ plain form.DeclarativePart []
    ∷ plain form.Statements
    (plain form.SignalAssignment
    (of form.Name STD_ULOGIC
    (node form.Identifier (Some 425) (Some 405) 0 (codes "l_0") []
    ∷ node form.Selection (Some 406) (Some STD_ULOGIC) 0 [] (leaf form.Identifier (codes "d") ∷ []) ∷ [])
    ∷ absent ∷ node form.Letter (Some 163) (Some STD_ULOGIC) 2 (codes "0") [] ∷ [])
    ∷ plain form.WaitStatement
    (absent ∷ absent
    ∷ of form.PhysicalLiteral TIME (node form.Number None (Some INTEGER) 0 (codes "5") [] ∷ node form.Identifier (Some 149) None 0 (codes "ns") [] ∷ []) ∷ [])
    ∷ plain form.SignalAssignment
    (of form.Name STD_ULOGIC
    (node form.Identifier (Some 425) (Some 405) 0 (codes "l_0") []
    ∷ node form.Selection (Some 406) (Some STD_ULOGIC) 0 [] (leaf form.Identifier (codes "d") ∷ []) ∷ [])
    ∷ absent ∷ node form.Letter (Some 164) (Some STD_ULOGIC) 3 (codes "1") [] ∷ [])
    ∷ plain form.WaitStatement
    (absent ∷ absent
    ∷ of form.PhysicalLiteral TIME (node form.Number None (Some INTEGER) 0 (codes "5") [] ∷ node form.Identifier (Some 149) None 0 (codes "ns") [] ∷ []) ∷ []) ∷ [])
    ∷ absent ∷ [])
    ∷ plain form.ConcurrentAssignment
    (of form.Name STD_ULOGIC
    (node form.Identifier (Some 426) (Some 405) 0 (codes "l_1") []
    ∷ node form.Selection (Some 407) (Some STD_ULOGIC) 1 [] (leaf form.Identifier (codes "r") ∷ []) ∷ [])
    ∷ absent ∷ node form.Letter (Some 164) (Some STD_ULOGIC) 3 (codes "1") [] ∷ [])
    ∷ plain form.LabelledConcurrent
    (node form.Identifier (Some 427) None 0 (codes "d_1") []
    ∷ plain form.EntityInstantiation
    (node form.SelectedName (Some 415) None 0 [] (leaf form.Identifier (codes "work") ∷ leaf form.Identifier (codes "u_1") ∷ []) ∷ absent ∷ absent
    ∷ plain form.PortMap
    (plain form.Association
    (plain form.AssociationChoices (node form.Name (Some 416) None 0 [] (leaf form.Identifier (codes "i_d") ∷ []) ∷ [])
    ∷ of form.Name STD_ULOGIC
    (node form.Identifier (Some 425) (Some 405) 0 (codes "l_0") []
    ∷ node form.Selection (Some 406) (Some STD_ULOGIC) 0 [] (leaf form.Identifier (codes "d") ∷ []) ∷ []) ∷ [])
    ∷ plain form.Association
    (plain form.AssociationChoices (node form.Name (Some 417) None 0 [] (leaf form.Identifier (codes "i_r") ∷ []) ∷ [])
    ∷ of form.Name STD_ULOGIC
    (node form.Identifier (Some 425) (Some 405) 0 (codes "l_0") []
    ∷ node form.Selection (Some 407) (Some STD_ULOGIC) 1 [] (leaf form.Identifier (codes "r") ∷ []) ∷ []) ∷ [])
    ∷ plain form.Association
    (plain form.AssociationChoices (node form.Name (Some 418) None 0 [] (leaf form.Identifier (codes "o_d") ∷ []) ∷ [])
    ∷ of form.Name STD_ULOGIC
    (node form.Identifier (Some 426) (Some 405) 0 (codes "l_1") []
    ∷ node form.Selection (Some 406) (Some STD_ULOGIC) 0 [] (leaf form.Identifier (codes "d") ∷ []) ∷ []) ∷ [])
    ∷ plain form.Association
    (plain form.AssociationChoices (node form.Name (Some 419) None 0 [] (leaf form.Identifier (codes "o_r") ∷ []) ∷ [])
    ∷ of form.Name STD_ULOGIC
    (node form.Identifier (Some 426) (Some 405) 0 (codes "l_1") []
    ∷ node form.Selection (Some 407) (Some STD_ULOGIC) 1 [] (leaf form.Identifier (codes "r") ∷ []) ∷ []) ∷ []) ∷ []) ∷ []) ∷ []) ∷ [])
    ∷ plain form.Closing (plain form.ClosingWord [] ∷ leaf form.Identifier (codes "r") ∷ []) ∷ []) ∷ [])

abbrev pub design : ResolvedTree
design =
    designed V1993 (package_vdown_support ∷ body_of_vdown_support ∷ package_bulk_pk ∷ entity_u_1 ∷ architecture_r_of_u_1 ∷ entity_bulk_top ∷ architecture_r_of_bulk_top ∷ []) declarations
