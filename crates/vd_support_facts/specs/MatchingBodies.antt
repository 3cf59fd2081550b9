-- Bodies of functions of the support package. Written by tools/resolved-trees from examples/support/vdown_support.vhd, which is of revision 1993.
use Rattle.std.specs.Prelude.{[], ◌∷◌, Some, None, codes}
use Rattle.vd_forest.specs.Forest.{Forest}
use Rattle.vd_forms.specs.declared.form.Form.TheVariants as form
use Rattle.vd_resolved.specs.declared.node.Resolved.{Resolved}
use Rattle.vd_predefined.specs.declared.numbers.TheConstants.{BOOLEAN, BIT, INTEGER, BIT_VECTOR, STD_ULOGIC, STD_ULOGIC_VECTOR}
use Rattle.vd_meaning_facts.specs.Trees.{node, plain, absent, of, leaf}

abbrev pub vd_cond : Forest Resolved
vd_cond =
    node form.FunctionBody (Some 390) None 0 []
    (absent ∷ node form.Identifier (Some 390) None 0 (codes "vd_cond") [] ∷ absent ∷ absent
    ∷ plain form.ParameterList
    (plain form.ParameterDeclaration
    (absent ∷ plain form.IdentifierList (node form.Identifier (Some 389) None 0 (codes "a") [] ∷ []) ∷ absent
    ∷ plain form.SubtypeIndication (node form.SelectedName (Some STD_ULOGIC) None 0 [] (leaf form.Identifier (codes "std_ulogic") ∷ []) ∷ absent ∷ []) ∷ []) ∷ [])
    ∷ node form.SelectedName (Some BOOLEAN) None 0 [] (leaf form.Identifier (codes "boolean") ∷ []) ∷ plain form.DeclarativePart []
    ∷ plain form.Statements
    (plain form.ReturnStatement
    (node form.Or (Some 188) (Some BOOLEAN) 0 []
    (node form.Equal (Some 315) (Some BOOLEAN) 0 []
    (of form.Name STD_ULOGIC (node form.Identifier (Some 389) (Some STD_ULOGIC) 0 (codes "a") [] ∷ [])
    ∷ node form.Letter (Some 164) (Some STD_ULOGIC) 3 (codes "1") [] ∷ [])
    ∷ node form.Equal (Some 315) (Some BOOLEAN) 0 []
    (of form.Name STD_ULOGIC (node form.Identifier (Some 389) (Some STD_ULOGIC) 0 (codes "a") [] ∷ [])
    ∷ node form.Letter (Some 168) (Some STD_ULOGIC) 7 (codes "H") [] ∷ []) ∷ []) ∷ []) ∷ [])
    ∷ plain form.FunctionClosing (absent ∷ absent ∷ []) ∷ [])

abbrev pub vd_eq : Forest Resolved
vd_eq =
    node form.FunctionBody (Some 393) None 0 []
    (absent ∷ node form.Identifier (Some 393) None 0 (codes "vd_eq") [] ∷ absent ∷ absent
    ∷ plain form.ParameterList
    (plain form.ParameterDeclaration
    (absent ∷ plain form.IdentifierList (node form.Identifier (Some 391) None 0 (codes "l") [] ∷ []) ∷ absent
    ∷ plain form.SubtypeIndication (node form.SelectedName (Some STD_ULOGIC) None 0 [] (leaf form.Identifier (codes "std_ulogic") ∷ []) ∷ absent ∷ []) ∷ [])
    ∷ plain form.ParameterDeclaration
    (absent ∷ plain form.IdentifierList (node form.Identifier (Some 392) None 0 (codes "r") [] ∷ []) ∷ absent
    ∷ plain form.SubtypeIndication (node form.SelectedName (Some STD_ULOGIC) None 0 [] (leaf form.Identifier (codes "std_ulogic") ∷ []) ∷ absent ∷ []) ∷ []) ∷ [])
    ∷ node form.SelectedName (Some STD_ULOGIC) None 0 [] (leaf form.Identifier (codes "std_ulogic") ∷ []) ∷ plain form.DeclarativePart []
    ∷ plain form.Statements
    (plain form.IfStatement
    (node form.Or (Some 188) (Some BOOLEAN) 0 []
    (node form.Equal (Some 315) (Some BOOLEAN) 0 []
    (of form.Name STD_ULOGIC (node form.Identifier (Some 391) (Some STD_ULOGIC) 0 (codes "l") [] ∷ [])
    ∷ node form.Letter (Some 169) (Some STD_ULOGIC) 8 (codes "-") [] ∷ [])
    ∷ node form.Equal (Some 315) (Some BOOLEAN) 0 []
    (of form.Name STD_ULOGIC (node form.Identifier (Some 392) (Some STD_ULOGIC) 0 (codes "r") [] ∷ [])
    ∷ node form.Letter (Some 169) (Some STD_ULOGIC) 8 (codes "-") [] ∷ []) ∷ [])
    ∷ plain form.Statements (plain form.ReturnStatement (node form.Letter (Some 164) (Some STD_ULOGIC) 3 (codes "1") [] ∷ []) ∷ [])
    ∷ plain form.ElsifBranches [] ∷ absent ∷ absent ∷ [])
    ∷ plain form.ReturnStatement
    (node form.Not (Some 362) (Some STD_ULOGIC) 0 []
    (node form.Xor (Some 361) (Some STD_ULOGIC) 0 []
    (of form.Name STD_ULOGIC (node form.Identifier (Some 391) (Some STD_ULOGIC) 0 (codes "l") [] ∷ [])
    ∷ of form.Name STD_ULOGIC (node form.Identifier (Some 392) (Some STD_ULOGIC) 0 (codes "r") [] ∷ []) ∷ []) ∷ []) ∷ []) ∷ [])
    ∷ plain form.FunctionClosing (absent ∷ absent ∷ []) ∷ [])

abbrev pub vd_eqv : Forest Resolved
vd_eqv =
    node form.FunctionBody (Some 396) None 0 []
    (absent ∷ node form.Identifier (Some 396) None 0 (codes "vd_eqv") [] ∷ absent ∷ absent
    ∷ plain form.ParameterList
    (plain form.ParameterDeclaration
    (absent ∷ plain form.IdentifierList (node form.Identifier (Some 394) None 0 (codes "l") [] ∷ []) ∷ absent
    ∷ plain form.SubtypeIndication
    (node form.SelectedName (Some STD_ULOGIC_VECTOR) None 0 [] (leaf form.Identifier (codes "std_ulogic_vector") ∷ []) ∷ absent ∷ []) ∷ [])
    ∷ plain form.ParameterDeclaration
    (absent ∷ plain form.IdentifierList (node form.Identifier (Some 395) None 0 (codes "r") [] ∷ []) ∷ absent
    ∷ plain form.SubtypeIndication
    (node form.SelectedName (Some STD_ULOGIC_VECTOR) None 0 [] (leaf form.Identifier (codes "std_ulogic_vector") ∷ []) ∷ absent ∷ []) ∷ []) ∷ [])
    ∷ node form.SelectedName (Some STD_ULOGIC) None 0 [] (leaf form.Identifier (codes "std_ulogic") ∷ [])
    ∷ plain form.DeclarativePart
    (plain form.ConstantDeclaration
    (plain form.IdentifierList (node form.Identifier (Some 481) None 0 (codes "first") [] ∷ [])
    ∷ plain form.SubtypeIndication
    (node form.SelectedName (Some STD_ULOGIC_VECTOR) None 0 [] (leaf form.Identifier (codes "std_ulogic_vector") ∷ []) ∷ absent ∷ [])
    ∷ node form.Concatenate (Some 333) (Some STD_ULOGIC_VECTOR) 0 []
    (of form.Name STD_ULOGIC_VECTOR (node form.Identifier (Some 394) (Some STD_ULOGIC_VECTOR) 0 (codes "l") [] ∷ []) ∷ of form.Quoted STD_ULOGIC_VECTOR [] ∷ []) ∷ [])
    ∷ plain form.ConstantDeclaration
    (plain form.IdentifierList (node form.Identifier (Some 482) None 0 (codes "second") [] ∷ [])
    ∷ plain form.SubtypeIndication
    (node form.SelectedName (Some STD_ULOGIC_VECTOR) None 0 [] (leaf form.Identifier (codes "std_ulogic_vector") ∷ [])
    ∷ plain form.IndexConstraint
    (of form.Name INTEGER (node form.Identifier (Some 481) (Some STD_ULOGIC_VECTOR) 0 (codes "first") [] ∷ of form.RangeAttribute INTEGER [] ∷ []) ∷ []) ∷ [])
    ∷ of form.Name STD_ULOGIC_VECTOR (node form.Identifier (Some 395) (Some STD_ULOGIC_VECTOR) 0 (codes "r") [] ∷ []) ∷ [])
    ∷ plain form.VariableDeclaration
    (plain form.IdentifierList (node form.Identifier (Some 483) None 0 (codes "result") [] ∷ [])
    ∷ plain form.SubtypeIndication (node form.SelectedName (Some STD_ULOGIC) None 0 [] (leaf form.Identifier (codes "std_ulogic") ∷ []) ∷ absent ∷ [])
    ∷ node form.Letter (Some 164) (Some STD_ULOGIC) 3 (codes "1") [] ∷ []) ∷ [])
    ∷ plain form.Statements
    (node form.ForLoop (Some 484) None 0 []
    (node form.Identifier (Some 484) None 0 (codes "i") []
    ∷ of form.Name INTEGER (node form.Identifier (Some 481) (Some STD_ULOGIC_VECTOR) 0 (codes "first") [] ∷ of form.RangeAttribute INTEGER [] ∷ [])
    ∷ plain form.Statements
    (plain form.VariableAssignment
    (of form.Name STD_ULOGIC (node form.Identifier (Some 483) (Some STD_ULOGIC) 0 (codes "result") [] ∷ [])
    ∷ node form.And (Some 357) (Some STD_ULOGIC) 0 []
    (of form.Name STD_ULOGIC (node form.Identifier (Some 483) (Some STD_ULOGIC) 0 (codes "result") [] ∷ [])
    ∷ of form.Name STD_ULOGIC
    (node form.Identifier (Some 393) None 0 (codes "vd_eq") []
    ∷ node form.Arguments (Some 393) (Some STD_ULOGIC) 0 []
    (of form.Name STD_ULOGIC
    (node form.Identifier (Some 481) (Some STD_ULOGIC_VECTOR) 0 (codes "first") []
    ∷ of form.Arguments STD_ULOGIC (of form.Name INTEGER (node form.Identifier (Some 484) (Some INTEGER) 0 (codes "i") [] ∷ []) ∷ []) ∷ [])
    ∷ of form.Name STD_ULOGIC
    (node form.Identifier (Some 482) (Some STD_ULOGIC_VECTOR) 0 (codes "second") []
    ∷ of form.Arguments STD_ULOGIC (of form.Name INTEGER (node form.Identifier (Some 484) (Some INTEGER) 0 (codes "i") [] ∷ []) ∷ []) ∷ []) ∷ []) ∷ []) ∷ []) ∷ []) ∷ [])
    ∷ absent ∷ [])
    ∷ plain form.ReturnStatement (of form.Name STD_ULOGIC (node form.Identifier (Some 483) (Some STD_ULOGIC) 0 (codes "result") [] ∷ []) ∷ []) ∷ [])
    ∷ plain form.FunctionClosing (absent ∷ absent ∷ []) ∷ [])

abbrev pub vd_eqb : Forest Resolved
vd_eqb =
    node form.FunctionBody (Some 399) None 0 []
    (absent ∷ node form.Identifier (Some 399) None 0 (codes "vd_eqb") [] ∷ absent ∷ absent
    ∷ plain form.ParameterList
    (plain form.ParameterDeclaration
    (absent ∷ plain form.IdentifierList (node form.Identifier (Some 397) None 0 (codes "l") [] ∷ []) ∷ absent
    ∷ plain form.SubtypeIndication (node form.SelectedName (Some BIT) None 0 [] (leaf form.Identifier (codes "bit") ∷ []) ∷ absent ∷ []) ∷ [])
    ∷ plain form.ParameterDeclaration
    (absent ∷ plain form.IdentifierList (node form.Identifier (Some 398) None 0 (codes "r") [] ∷ []) ∷ absent
    ∷ plain form.SubtypeIndication (node form.SelectedName (Some BIT) None 0 [] (leaf form.Identifier (codes "bit") ∷ []) ∷ absent ∷ []) ∷ []) ∷ [])
    ∷ node form.SelectedName (Some BIT) None 0 [] (leaf form.Identifier (codes "bit") ∷ []) ∷ plain form.DeclarativePart []
    ∷ plain form.Statements
    (plain form.ReturnStatement
    (node form.Not (Some 210) (Some BIT) 0 []
    (node form.Xor (Some 208) (Some BIT) 0 []
    (of form.Name BIT (node form.Identifier (Some 397) (Some BIT) 0 (codes "l") [] ∷ [])
    ∷ of form.Name BIT (node form.Identifier (Some 398) (Some BIT) 0 (codes "r") [] ∷ []) ∷ []) ∷ []) ∷ []) ∷ [])
    ∷ plain form.FunctionClosing (absent ∷ absent ∷ []) ∷ [])

abbrev pub vd_eqbv : Forest Resolved
vd_eqbv =
    node form.FunctionBody (Some 402) None 0 []
    (absent ∷ node form.Identifier (Some 402) None 0 (codes "vd_eqbv") [] ∷ absent ∷ absent
    ∷ plain form.ParameterList
    (plain form.ParameterDeclaration
    (absent ∷ plain form.IdentifierList (node form.Identifier (Some 400) None 0 (codes "l") [] ∷ []) ∷ absent
    ∷ plain form.SubtypeIndication (node form.SelectedName (Some BIT_VECTOR) None 0 [] (leaf form.Identifier (codes "bit_vector") ∷ []) ∷ absent ∷ []) ∷ [])
    ∷ plain form.ParameterDeclaration
    (absent ∷ plain form.IdentifierList (node form.Identifier (Some 401) None 0 (codes "r") [] ∷ []) ∷ absent
    ∷ plain form.SubtypeIndication (node form.SelectedName (Some BIT_VECTOR) None 0 [] (leaf form.Identifier (codes "bit_vector") ∷ []) ∷ absent ∷ []) ∷ []) ∷ [])
    ∷ node form.SelectedName (Some BIT) None 0 [] (leaf form.Identifier (codes "bit") ∷ [])
    ∷ plain form.DeclarativePart
    (plain form.ConstantDeclaration
    (plain form.IdentifierList (node form.Identifier (Some 485) None 0 (codes "first") [] ∷ [])
    ∷ plain form.SubtypeIndication (node form.SelectedName (Some BIT_VECTOR) None 0 [] (leaf form.Identifier (codes "bit_vector") ∷ []) ∷ absent ∷ [])
    ∷ node form.Concatenate (Some 307) (Some BIT_VECTOR) 0 []
    (of form.Name BIT_VECTOR (node form.Identifier (Some 400) (Some BIT_VECTOR) 0 (codes "l") [] ∷ []) ∷ of form.Quoted BIT_VECTOR [] ∷ []) ∷ [])
    ∷ plain form.ConstantDeclaration
    (plain form.IdentifierList (node form.Identifier (Some 486) None 0 (codes "second") [] ∷ [])
    ∷ plain form.SubtypeIndication
    (node form.SelectedName (Some BIT_VECTOR) None 0 [] (leaf form.Identifier (codes "bit_vector") ∷ [])
    ∷ plain form.IndexConstraint
    (of form.Name INTEGER (node form.Identifier (Some 485) (Some BIT_VECTOR) 0 (codes "first") [] ∷ of form.RangeAttribute INTEGER [] ∷ []) ∷ []) ∷ [])
    ∷ of form.Name BIT_VECTOR (node form.Identifier (Some 401) (Some BIT_VECTOR) 0 (codes "r") [] ∷ []) ∷ [])
    ∷ plain form.VariableDeclaration
    (plain form.IdentifierList (node form.Identifier (Some 487) None 0 (codes "result") [] ∷ [])
    ∷ plain form.SubtypeIndication (node form.SelectedName (Some BIT) None 0 [] (leaf form.Identifier (codes "bit") ∷ []) ∷ absent ∷ [])
    ∷ node form.Letter (Some 10) (Some BIT) 1 (codes "1") [] ∷ []) ∷ [])
    ∷ plain form.Statements
    (node form.ForLoop (Some 488) None 0 []
    (node form.Identifier (Some 488) None 0 (codes "i") []
    ∷ of form.Name INTEGER (node form.Identifier (Some 485) (Some BIT_VECTOR) 0 (codes "first") [] ∷ of form.RangeAttribute INTEGER [] ∷ [])
    ∷ plain form.Statements
    (plain form.VariableAssignment
    (of form.Name BIT (node form.Identifier (Some 487) (Some BIT) 0 (codes "result") [] ∷ [])
    ∷ node form.And (Some 204) (Some BIT) 0 []
    (of form.Name BIT (node form.Identifier (Some 487) (Some BIT) 0 (codes "result") [] ∷ [])
    ∷ of form.Name BIT
    (node form.Identifier (Some 399) None 0 (codes "vd_eqb") []
    ∷ node form.Arguments (Some 399) (Some BIT) 0 []
    (of form.Name BIT
    (node form.Identifier (Some 485) (Some BIT_VECTOR) 0 (codes "first") []
    ∷ of form.Arguments BIT (of form.Name INTEGER (node form.Identifier (Some 488) (Some INTEGER) 0 (codes "i") [] ∷ []) ∷ []) ∷ [])
    ∷ of form.Name BIT
    (node form.Identifier (Some 486) (Some BIT_VECTOR) 0 (codes "second") []
    ∷ of form.Arguments BIT (of form.Name INTEGER (node form.Identifier (Some 488) (Some INTEGER) 0 (codes "i") [] ∷ []) ∷ []) ∷ []) ∷ []) ∷ []) ∷ []) ∷ []) ∷ [])
    ∷ absent ∷ [])
    ∷ plain form.ReturnStatement (of form.Name BIT (node form.Identifier (Some 487) (Some BIT) 0 (codes "result") [] ∷ []) ∷ []) ∷ [])
    ∷ plain form.FunctionClosing (absent ∷ absent ∷ []) ∷ [])

abbrev pub vd_ltb : Forest Resolved
vd_ltb =
    node form.FunctionBody (Some 405) None 0 []
    (absent ∷ node form.Identifier (Some 405) None 0 (codes "vd_ltb") [] ∷ absent ∷ absent
    ∷ plain form.ParameterList
    (plain form.ParameterDeclaration
    (absent ∷ plain form.IdentifierList (node form.Identifier (Some 403) None 0 (codes "l") [] ∷ []) ∷ absent
    ∷ plain form.SubtypeIndication (node form.SelectedName (Some BIT) None 0 [] (leaf form.Identifier (codes "bit") ∷ []) ∷ absent ∷ []) ∷ [])
    ∷ plain form.ParameterDeclaration
    (absent ∷ plain form.IdentifierList (node form.Identifier (Some 404) None 0 (codes "r") [] ∷ []) ∷ absent
    ∷ plain form.SubtypeIndication (node form.SelectedName (Some BIT) None 0 [] (leaf form.Identifier (codes "bit") ∷ []) ∷ absent ∷ []) ∷ []) ∷ [])
    ∷ node form.SelectedName (Some BIT) None 0 [] (leaf form.Identifier (codes "bit") ∷ []) ∷ plain form.DeclarativePart []
    ∷ plain form.Statements
    (plain form.ReturnStatement
    (node form.And (Some 204) (Some BIT) 0 []
    (node form.Not (Some 210) (Some BIT) 0 [] (of form.Name BIT (node form.Identifier (Some 403) (Some BIT) 0 (codes "l") [] ∷ []) ∷ [])
    ∷ of form.Name BIT (node form.Identifier (Some 404) (Some BIT) 0 (codes "r") [] ∷ []) ∷ []) ∷ []) ∷ [])
    ∷ plain form.FunctionClosing (absent ∷ absent ∷ []) ∷ [])

abbrev pub vd_leb : Forest Resolved
vd_leb =
    node form.FunctionBody (Some 408) None 0 []
    (absent ∷ node form.Identifier (Some 408) None 0 (codes "vd_leb") [] ∷ absent ∷ absent
    ∷ plain form.ParameterList
    (plain form.ParameterDeclaration
    (absent ∷ plain form.IdentifierList (node form.Identifier (Some 406) None 0 (codes "l") [] ∷ []) ∷ absent
    ∷ plain form.SubtypeIndication (node form.SelectedName (Some BIT) None 0 [] (leaf form.Identifier (codes "bit") ∷ []) ∷ absent ∷ []) ∷ [])
    ∷ plain form.ParameterDeclaration
    (absent ∷ plain form.IdentifierList (node form.Identifier (Some 407) None 0 (codes "r") [] ∷ []) ∷ absent
    ∷ plain form.SubtypeIndication (node form.SelectedName (Some BIT) None 0 [] (leaf form.Identifier (codes "bit") ∷ []) ∷ absent ∷ []) ∷ []) ∷ [])
    ∷ node form.SelectedName (Some BIT) None 0 [] (leaf form.Identifier (codes "bit") ∷ []) ∷ plain form.DeclarativePart []
    ∷ plain form.Statements
    (plain form.ReturnStatement
    (node form.Or (Some 205) (Some BIT) 0 []
    (node form.Not (Some 210) (Some BIT) 0 [] (of form.Name BIT (node form.Identifier (Some 406) (Some BIT) 0 (codes "l") [] ∷ []) ∷ [])
    ∷ of form.Name BIT (node form.Identifier (Some 407) (Some BIT) 0 (codes "r") [] ∷ []) ∷ []) ∷ []) ∷ [])
    ∷ plain form.FunctionClosing (absent ∷ absent ∷ []) ∷ [])

abbrev pub vd_gtb : Forest Resolved
vd_gtb =
    node form.FunctionBody (Some 411) None 0 []
    (absent ∷ node form.Identifier (Some 411) None 0 (codes "vd_gtb") [] ∷ absent ∷ absent
    ∷ plain form.ParameterList
    (plain form.ParameterDeclaration
    (absent ∷ plain form.IdentifierList (node form.Identifier (Some 409) None 0 (codes "l") [] ∷ []) ∷ absent
    ∷ plain form.SubtypeIndication (node form.SelectedName (Some BIT) None 0 [] (leaf form.Identifier (codes "bit") ∷ []) ∷ absent ∷ []) ∷ [])
    ∷ plain form.ParameterDeclaration
    (absent ∷ plain form.IdentifierList (node form.Identifier (Some 410) None 0 (codes "r") [] ∷ []) ∷ absent
    ∷ plain form.SubtypeIndication (node form.SelectedName (Some BIT) None 0 [] (leaf form.Identifier (codes "bit") ∷ []) ∷ absent ∷ []) ∷ []) ∷ [])
    ∷ node form.SelectedName (Some BIT) None 0 [] (leaf form.Identifier (codes "bit") ∷ []) ∷ plain form.DeclarativePart []
    ∷ plain form.Statements
    (plain form.ReturnStatement
    (node form.And (Some 204) (Some BIT) 0 []
    (of form.Name BIT (node form.Identifier (Some 409) (Some BIT) 0 (codes "l") [] ∷ [])
    ∷ node form.Not (Some 210) (Some BIT) 0 [] (of form.Name BIT (node form.Identifier (Some 410) (Some BIT) 0 (codes "r") [] ∷ []) ∷ []) ∷ []) ∷ []) ∷ [])
    ∷ plain form.FunctionClosing (absent ∷ absent ∷ []) ∷ [])

abbrev pub vd_geb : Forest Resolved
vd_geb =
    node form.FunctionBody (Some 414) None 0 []
    (absent ∷ node form.Identifier (Some 414) None 0 (codes "vd_geb") [] ∷ absent ∷ absent
    ∷ plain form.ParameterList
    (plain form.ParameterDeclaration
    (absent ∷ plain form.IdentifierList (node form.Identifier (Some 412) None 0 (codes "l") [] ∷ []) ∷ absent
    ∷ plain form.SubtypeIndication (node form.SelectedName (Some BIT) None 0 [] (leaf form.Identifier (codes "bit") ∷ []) ∷ absent ∷ []) ∷ [])
    ∷ plain form.ParameterDeclaration
    (absent ∷ plain form.IdentifierList (node form.Identifier (Some 413) None 0 (codes "r") [] ∷ []) ∷ absent
    ∷ plain form.SubtypeIndication (node form.SelectedName (Some BIT) None 0 [] (leaf form.Identifier (codes "bit") ∷ []) ∷ absent ∷ []) ∷ []) ∷ [])
    ∷ node form.SelectedName (Some BIT) None 0 [] (leaf form.Identifier (codes "bit") ∷ []) ∷ plain form.DeclarativePart []
    ∷ plain form.Statements
    (plain form.ReturnStatement
    (node form.Or (Some 205) (Some BIT) 0 []
    (of form.Name BIT (node form.Identifier (Some 412) (Some BIT) 0 (codes "l") [] ∷ [])
    ∷ node form.Not (Some 210) (Some BIT) 0 [] (of form.Name BIT (node form.Identifier (Some 413) (Some BIT) 0 (codes "r") [] ∷ []) ∷ []) ∷ []) ∷ []) ∷ [])
    ∷ plain form.FunctionClosing (absent ∷ absent ∷ []) ∷ [])

abbrev pub vd_dash : Forest Resolved
vd_dash =
    node form.FunctionBody (Some 480) None 0 []
    (absent ∷ node form.Identifier (Some 480) None 0 (codes "vd_dash") [] ∷ absent ∷ absent
    ∷ plain form.ParameterList
    (plain form.ParameterDeclaration
    (absent ∷ plain form.IdentifierList (node form.Identifier (Some 479) None 0 (codes "a") [] ∷ []) ∷ absent
    ∷ plain form.SubtypeIndication
    (node form.SelectedName (Some STD_ULOGIC_VECTOR) None 0 [] (leaf form.Identifier (codes "std_ulogic_vector") ∷ []) ∷ absent ∷ []) ∷ []) ∷ [])
    ∷ node form.SelectedName (Some BOOLEAN) None 0 [] (leaf form.Identifier (codes "boolean") ∷ [])
    ∷ plain form.DeclarativePart
    (plain form.ConstantDeclaration
    (plain form.IdentifierList (node form.Identifier (Some 545) None 0 (codes "elements") [] ∷ [])
    ∷ plain form.SubtypeIndication
    (node form.SelectedName (Some STD_ULOGIC_VECTOR) None 0 [] (leaf form.Identifier (codes "std_ulogic_vector") ∷ []) ∷ absent ∷ [])
    ∷ node form.Concatenate (Some 333) (Some STD_ULOGIC_VECTOR) 0 []
    (of form.Name STD_ULOGIC_VECTOR (node form.Identifier (Some 479) (Some STD_ULOGIC_VECTOR) 0 (codes "a") [] ∷ []) ∷ of form.Quoted STD_ULOGIC_VECTOR [] ∷ []) ∷ []) ∷ [])
    ∷ plain form.Statements
    (node form.ForLoop (Some 546) None 0 []
    (node form.Identifier (Some 546) None 0 (codes "i") []
    ∷ of form.Name INTEGER (node form.Identifier (Some 545) (Some STD_ULOGIC_VECTOR) 0 (codes "elements") [] ∷ of form.RangeAttribute INTEGER [] ∷ [])
    ∷ plain form.Statements
    (plain form.IfStatement
    (node form.Equal (Some 315) (Some BOOLEAN) 0 []
    (of form.Name STD_ULOGIC
    (node form.Identifier (Some 545) (Some STD_ULOGIC_VECTOR) 0 (codes "elements") []
    ∷ of form.Arguments STD_ULOGIC (of form.Name INTEGER (node form.Identifier (Some 546) (Some INTEGER) 0 (codes "i") [] ∷ []) ∷ []) ∷ [])
    ∷ node form.Letter (Some 169) (Some STD_ULOGIC) 8 (codes "-") [] ∷ [])
    ∷ plain form.Statements
    (plain form.ReturnStatement (of form.Name BOOLEAN (node form.Identifier (Some 7) (Some BOOLEAN) 1 (codes "true") [] ∷ []) ∷ []) ∷ [])
    ∷ plain form.ElsifBranches [] ∷ absent ∷ absent ∷ []) ∷ [])
    ∷ absent ∷ [])
    ∷ plain form.ReturnStatement (of form.Name BOOLEAN (node form.Identifier (Some 6) (Some BOOLEAN) 0 (codes "false") [] ∷ []) ∷ []) ∷ [])
    ∷ plain form.FunctionClosing (absent ∷ absent ∷ []) ∷ [])
