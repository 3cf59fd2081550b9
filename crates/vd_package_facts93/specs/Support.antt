-- The trees of design units that several designs begin with. Written by tools/resolved-trees from examples/worked/support_93.vhd, which is of revision 1993:
--
-- library ieee;
-- use ieee.std_logic_1164.all;
-- package vdown_support is
--   function vd_eq(l : std_ulogic; r : std_ulogic) return std_ulogic;
--   function vd_eqv(l : std_ulogic_vector; r : std_ulogic_vector) return std_ulogic;
--   function vd_dash(a : std_ulogic_vector) return boolean;
-- end package vdown_support;
-- package body vdown_support is
--   function vd_eq(l : std_ulogic; r : std_ulogic) return std_ulogic is
--   begin
--     if (l = '-') or (r = '-') then
--       return '1';
--     end if;
--     return not (l xor r);
--   end;
--   function vd_eqv(l : std_ulogic_vector; r : std_ulogic_vector) return std_ulogic is
--     constant first : std_ulogic_vector := l & "";
--     constant second : std_ulogic_vector(first'range) := r;
--     variable result : std_ulogic := '1';
--   begin
--     for i in first'range loop
--       result := result and vd_eq(first(i), second(i));
--     end loop;
--     return result;
--   end;
--   function vd_dash(a : std_ulogic_vector) return boolean is
--     constant elements : std_ulogic_vector := a & "";
--   begin
--     for i in elements'range loop
--       if elements(i) = '-' then
--         return true;
--       end if;
--     end loop;
--     return false;
--   end;
-- end package body vdown_support;
use Rattle.std.specs.Prelude.{[], ◌∷◌, Some, None, codes}
use Rattle.vd_forest.specs.Forest.{Forest}
use Rattle.vd_forms.specs.declared.form.Form.TheVariants as form
use Rattle.vd_resolved.specs.declared.node.Resolved.{Resolved}
use Rattle.vd_predefined.specs.declared.numbers.TheConstants.{BOOLEAN, INTEGER, STD_ULOGIC, STD_ULOGIC_VECTOR}
use Rattle.vd_meaning_facts.specs.Trees.{node, plain, absent, of, leaf}

abbrev pub package_vdown_support : Forest Resolved
package_vdown_support =
    plain form.DesignUnit
    (plain form.ContextClause
    (plain form.LibraryClause (node form.Identifier (Some 387) None 0 (codes "ieee") [] ∷ [])
    ∷ plain form.UseClause
    (node form.SelectedName (Some 4) None 0 []
    (leaf form.Identifier (codes "ieee") ∷ leaf form.Identifier (codes "std_logic_1164") ∷ plain form.All [] ∷ []) ∷ []) ∷ [])
    ∷ plain form.PackageDeclaration
    (node form.Identifier (Some 388) None 0 (codes "vdown_support") [] ∷ absent
    ∷ plain form.DeclarativePart
    (node form.FunctionDeclaration (Some 391) None 0 []
    (absent ∷ node form.Identifier (Some 391) None 0 (codes "vd_eq") [] ∷ absent ∷ absent
    ∷ plain form.ParameterList
    (plain form.ParameterDeclaration
    (absent ∷ plain form.IdentifierList (node form.Identifier (Some 389) None 0 (codes "l") [] ∷ []) ∷ absent
    ∷ plain form.SubtypeIndication (node form.SelectedName (Some STD_ULOGIC) None 0 [] (leaf form.Identifier (codes "std_ulogic") ∷ []) ∷ absent ∷ []) ∷ [])
    ∷ plain form.ParameterDeclaration
    (absent ∷ plain form.IdentifierList (node form.Identifier (Some 390) None 0 (codes "r") [] ∷ []) ∷ absent
    ∷ plain form.SubtypeIndication (node form.SelectedName (Some STD_ULOGIC) None 0 [] (leaf form.Identifier (codes "std_ulogic") ∷ []) ∷ absent ∷ []) ∷ []) ∷ [])
    ∷ node form.SelectedName (Some STD_ULOGIC) None 0 [] (leaf form.Identifier (codes "std_ulogic") ∷ []) ∷ [])
    ∷ node form.FunctionDeclaration (Some 394) None 0 []
    (absent ∷ node form.Identifier (Some 394) None 0 (codes "vd_eqv") [] ∷ absent ∷ absent
    ∷ plain form.ParameterList
    (plain form.ParameterDeclaration
    (absent ∷ plain form.IdentifierList (node form.Identifier (Some 392) None 0 (codes "l") [] ∷ []) ∷ absent
    ∷ plain form.SubtypeIndication
    (node form.SelectedName (Some STD_ULOGIC_VECTOR) None 0 [] (leaf form.Identifier (codes "std_ulogic_vector") ∷ []) ∷ absent ∷ []) ∷ [])
    ∷ plain form.ParameterDeclaration
    (absent ∷ plain form.IdentifierList (node form.Identifier (Some 393) None 0 (codes "r") [] ∷ []) ∷ absent
    ∷ plain form.SubtypeIndication
    (node form.SelectedName (Some STD_ULOGIC_VECTOR) None 0 [] (leaf form.Identifier (codes "std_ulogic_vector") ∷ []) ∷ absent ∷ []) ∷ []) ∷ [])
    ∷ node form.SelectedName (Some STD_ULOGIC) None 0 [] (leaf form.Identifier (codes "std_ulogic") ∷ []) ∷ [])
    ∷ node form.FunctionDeclaration (Some 396) None 0 []
    (absent ∷ node form.Identifier (Some 396) None 0 (codes "vd_dash") [] ∷ absent ∷ absent
    ∷ plain form.ParameterList
    (plain form.ParameterDeclaration
    (absent ∷ plain form.IdentifierList (node form.Identifier (Some 395) None 0 (codes "a") [] ∷ []) ∷ absent
    ∷ plain form.SubtypeIndication
    (node form.SelectedName (Some STD_ULOGIC_VECTOR) None 0 [] (leaf form.Identifier (codes "std_ulogic_vector") ∷ []) ∷ absent ∷ []) ∷ []) ∷ [])
    ∷ node form.SelectedName (Some BOOLEAN) None 0 [] (leaf form.Identifier (codes "boolean") ∷ []) ∷ []) ∷ [])
    ∷ plain form.Closing (plain form.ClosingWord [] ∷ leaf form.Identifier (codes "vdown_support") ∷ []) ∷ []) ∷ [])

abbrev pub body_of_vdown_support : Forest Resolved
body_of_vdown_support =
    plain form.DesignUnit
    (plain form.ContextClause []
    ∷ plain form.PackageBody
    (node form.Identifier (Some 388) None 0 (codes "vdown_support") []
    ∷ plain form.DeclarativePart
    (node form.FunctionBody (Some 391) None 0 []
    (absent ∷ node form.Identifier (Some 391) None 0 (codes "vd_eq") [] ∷ absent ∷ absent
    ∷ plain form.ParameterList
    (plain form.ParameterDeclaration
    (absent ∷ plain form.IdentifierList (node form.Identifier (Some 389) None 0 (codes "l") [] ∷ []) ∷ absent
    ∷ plain form.SubtypeIndication (node form.SelectedName (Some STD_ULOGIC) None 0 [] (leaf form.Identifier (codes "std_ulogic") ∷ []) ∷ absent ∷ []) ∷ [])
    ∷ plain form.ParameterDeclaration
    (absent ∷ plain form.IdentifierList (node form.Identifier (Some 390) None 0 (codes "r") [] ∷ []) ∷ absent
    ∷ plain form.SubtypeIndication (node form.SelectedName (Some STD_ULOGIC) None 0 [] (leaf form.Identifier (codes "std_ulogic") ∷ []) ∷ absent ∷ []) ∷ []) ∷ [])
    ∷ node form.SelectedName (Some STD_ULOGIC) None 0 [] (leaf form.Identifier (codes "std_ulogic") ∷ []) ∷ plain form.DeclarativePart []
    ∷ plain form.Statements
    (plain form.IfStatement
    (node form.Or (Some 188) (Some BOOLEAN) 0 []
    (node form.Equal (Some 315) (Some BOOLEAN) 0 []
    (of form.Name STD_ULOGIC (node form.Identifier (Some 389) (Some STD_ULOGIC) 0 (codes "l") [] ∷ [])
    ∷ node form.Letter (Some 169) (Some STD_ULOGIC) 8 (codes "-") [] ∷ [])
    ∷ node form.Equal (Some 315) (Some BOOLEAN) 0 []
    (of form.Name STD_ULOGIC (node form.Identifier (Some 390) (Some STD_ULOGIC) 0 (codes "r") [] ∷ [])
    ∷ node form.Letter (Some 169) (Some STD_ULOGIC) 8 (codes "-") [] ∷ []) ∷ [])
    ∷ plain form.Statements (plain form.ReturnStatement (node form.Letter (Some 164) (Some STD_ULOGIC) 3 (codes "1") [] ∷ []) ∷ [])
    ∷ plain form.ElsifBranches [] ∷ absent ∷ absent ∷ [])
    ∷ plain form.ReturnStatement
    (node form.Not (Some 362) (Some STD_ULOGIC) 0 []
    (node form.Xor (Some 361) (Some STD_ULOGIC) 0 []
    (of form.Name STD_ULOGIC (node form.Identifier (Some 389) (Some STD_ULOGIC) 0 (codes "l") [] ∷ [])
    ∷ of form.Name STD_ULOGIC (node form.Identifier (Some 390) (Some STD_ULOGIC) 0 (codes "r") [] ∷ []) ∷ []) ∷ []) ∷ []) ∷ [])
    ∷ plain form.FunctionClosing (absent ∷ absent ∷ []) ∷ [])
    ∷ node form.FunctionBody (Some 394) None 0 []
    (absent ∷ node form.Identifier (Some 394) None 0 (codes "vd_eqv") [] ∷ absent ∷ absent
    ∷ plain form.ParameterList
    (plain form.ParameterDeclaration
    (absent ∷ plain form.IdentifierList (node form.Identifier (Some 392) None 0 (codes "l") [] ∷ []) ∷ absent
    ∷ plain form.SubtypeIndication
    (node form.SelectedName (Some STD_ULOGIC_VECTOR) None 0 [] (leaf form.Identifier (codes "std_ulogic_vector") ∷ []) ∷ absent ∷ []) ∷ [])
    ∷ plain form.ParameterDeclaration
    (absent ∷ plain form.IdentifierList (node form.Identifier (Some 393) None 0 (codes "r") [] ∷ []) ∷ absent
    ∷ plain form.SubtypeIndication
    (node form.SelectedName (Some STD_ULOGIC_VECTOR) None 0 [] (leaf form.Identifier (codes "std_ulogic_vector") ∷ []) ∷ absent ∷ []) ∷ []) ∷ [])
    ∷ node form.SelectedName (Some STD_ULOGIC) None 0 [] (leaf form.Identifier (codes "std_ulogic") ∷ [])
    ∷ plain form.DeclarativePart
    (plain form.ConstantDeclaration
    (plain form.IdentifierList (node form.Identifier (Some 397) None 0 (codes "first") [] ∷ [])
    ∷ plain form.SubtypeIndication
    (node form.SelectedName (Some STD_ULOGIC_VECTOR) None 0 [] (leaf form.Identifier (codes "std_ulogic_vector") ∷ []) ∷ absent ∷ [])
    ∷ node form.Concatenate (Some 333) (Some STD_ULOGIC_VECTOR) 0 []
    (of form.Name STD_ULOGIC_VECTOR (node form.Identifier (Some 392) (Some STD_ULOGIC_VECTOR) 0 (codes "l") [] ∷ []) ∷ of form.Quoted STD_ULOGIC_VECTOR [] ∷ []) ∷ [])
    ∷ plain form.ConstantDeclaration
    (plain form.IdentifierList (node form.Identifier (Some 398) None 0 (codes "second") [] ∷ [])
    ∷ plain form.SubtypeIndication
    (node form.SelectedName (Some STD_ULOGIC_VECTOR) None 0 [] (leaf form.Identifier (codes "std_ulogic_vector") ∷ [])
    ∷ plain form.IndexConstraint
    (of form.Name INTEGER (node form.Identifier (Some 397) (Some STD_ULOGIC_VECTOR) 0 (codes "first") [] ∷ of form.RangeAttribute INTEGER [] ∷ []) ∷ []) ∷ [])
    ∷ of form.Name STD_ULOGIC_VECTOR (node form.Identifier (Some 393) (Some STD_ULOGIC_VECTOR) 0 (codes "r") [] ∷ []) ∷ [])
    ∷ plain form.VariableDeclaration
    (plain form.IdentifierList (node form.Identifier (Some 399) None 0 (codes "result") [] ∷ [])
    ∷ plain form.SubtypeIndication (node form.SelectedName (Some STD_ULOGIC) None 0 [] (leaf form.Identifier (codes "std_ulogic") ∷ []) ∷ absent ∷ [])
    ∷ node form.Letter (Some 164) (Some STD_ULOGIC) 3 (codes "1") [] ∷ []) ∷ [])
    ∷ plain form.Statements
    (node form.ForLoop (Some 400) None 0 []
    (node form.Identifier (Some 400) None 0 (codes "i") []
    ∷ of form.Name INTEGER (node form.Identifier (Some 397) (Some STD_ULOGIC_VECTOR) 0 (codes "first") [] ∷ of form.RangeAttribute INTEGER [] ∷ [])
    ∷ plain form.Statements
    (plain form.VariableAssignment
    (of form.Name STD_ULOGIC (node form.Identifier (Some 399) (Some STD_ULOGIC) 0 (codes "result") [] ∷ [])
    ∷ node form.And (Some 357) (Some STD_ULOGIC) 0 []
    (of form.Name STD_ULOGIC (node form.Identifier (Some 399) (Some STD_ULOGIC) 0 (codes "result") [] ∷ [])
    ∷ of form.Name STD_ULOGIC
    (node form.Identifier (Some 391) None 0 (codes "vd_eq") []
    ∷ node form.Arguments (Some 391) (Some STD_ULOGIC) 0 []
    (of form.Name STD_ULOGIC
    (node form.Identifier (Some 397) (Some STD_ULOGIC_VECTOR) 0 (codes "first") []
    ∷ of form.Arguments STD_ULOGIC (of form.Name INTEGER (node form.Identifier (Some 400) (Some INTEGER) 0 (codes "i") [] ∷ []) ∷ []) ∷ [])
    ∷ of form.Name STD_ULOGIC
    (node form.Identifier (Some 398) (Some STD_ULOGIC_VECTOR) 0 (codes "second") []
    ∷ of form.Arguments STD_ULOGIC (of form.Name INTEGER (node form.Identifier (Some 400) (Some INTEGER) 0 (codes "i") [] ∷ []) ∷ []) ∷ []) ∷ []) ∷ []) ∷ []) ∷ []) ∷ [])
    ∷ absent ∷ [])
    ∷ plain form.ReturnStatement (of form.Name STD_ULOGIC (node form.Identifier (Some 399) (Some STD_ULOGIC) 0 (codes "result") [] ∷ []) ∷ []) ∷ [])
    ∷ plain form.FunctionClosing (absent ∷ absent ∷ []) ∷ [])
    ∷ node form.FunctionBody (Some 396) None 0 []
    (absent ∷ node form.Identifier (Some 396) None 0 (codes "vd_dash") [] ∷ absent ∷ absent
    ∷ plain form.ParameterList
    (plain form.ParameterDeclaration
    (absent ∷ plain form.IdentifierList (node form.Identifier (Some 395) None 0 (codes "a") [] ∷ []) ∷ absent
    ∷ plain form.SubtypeIndication
    (node form.SelectedName (Some STD_ULOGIC_VECTOR) None 0 [] (leaf form.Identifier (codes "std_ulogic_vector") ∷ []) ∷ absent ∷ []) ∷ []) ∷ [])
    ∷ node form.SelectedName (Some BOOLEAN) None 0 [] (leaf form.Identifier (codes "boolean") ∷ [])
    ∷ plain form.DeclarativePart
    (plain form.ConstantDeclaration
    (plain form.IdentifierList (node form.Identifier (Some 401) None 0 (codes "elements") [] ∷ [])
    ∷ plain form.SubtypeIndication
    (node form.SelectedName (Some STD_ULOGIC_VECTOR) None 0 [] (leaf form.Identifier (codes "std_ulogic_vector") ∷ []) ∷ absent ∷ [])
    ∷ node form.Concatenate (Some 333) (Some STD_ULOGIC_VECTOR) 0 []
    (of form.Name STD_ULOGIC_VECTOR (node form.Identifier (Some 395) (Some STD_ULOGIC_VECTOR) 0 (codes "a") [] ∷ []) ∷ of form.Quoted STD_ULOGIC_VECTOR [] ∷ []) ∷ []) ∷ [])
    ∷ plain form.Statements
    (node form.ForLoop (Some 402) None 0 []
    (node form.Identifier (Some 402) None 0 (codes "i") []
    ∷ of form.Name INTEGER (node form.Identifier (Some 401) (Some STD_ULOGIC_VECTOR) 0 (codes "elements") [] ∷ of form.RangeAttribute INTEGER [] ∷ [])
    ∷ plain form.Statements
    (plain form.IfStatement
    (node form.Equal (Some 315) (Some BOOLEAN) 0 []
    (of form.Name STD_ULOGIC
    (node form.Identifier (Some 401) (Some STD_ULOGIC_VECTOR) 0 (codes "elements") []
    ∷ of form.Arguments STD_ULOGIC (of form.Name INTEGER (node form.Identifier (Some 402) (Some INTEGER) 0 (codes "i") [] ∷ []) ∷ []) ∷ [])
    ∷ node form.Letter (Some 169) (Some STD_ULOGIC) 8 (codes "-") [] ∷ [])
    ∷ plain form.Statements
    (plain form.ReturnStatement (of form.Name BOOLEAN (node form.Identifier (Some 7) (Some BOOLEAN) 1 (codes "true") [] ∷ []) ∷ []) ∷ [])
    ∷ plain form.ElsifBranches [] ∷ absent ∷ absent ∷ []) ∷ [])
    ∷ absent ∷ [])
    ∷ plain form.ReturnStatement (of form.Name BOOLEAN (node form.Identifier (Some 6) (Some BOOLEAN) 0 (codes "false") [] ∷ []) ∷ []) ∷ [])
    ∷ plain form.FunctionClosing (absent ∷ absent ∷ []) ∷ []) ∷ [])
    ∷ plain form.Closing (plain form.ClosingWord [] ∷ leaf form.Identifier (codes "vdown_support") ∷ []) ∷ []) ∷ [])
