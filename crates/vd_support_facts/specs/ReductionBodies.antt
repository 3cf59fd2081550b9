-- Bodies of functions of the support package. Written by tools/resolved-trees from examples/support/vdown_support.vhd, which is of revision 1993.
use Rattle.std.specs.Prelude.{[], ◌∷◌, Some, None, codes}
use Rattle.vd_forest.specs.Forest.{Forest}
use Rattle.vd_forms.specs.declared.form.Form.TheVariants as form
use Rattle.vd_resolved.specs.declared.node.Resolved.{Resolved}
use Rattle.vd_predefined.specs.declared.numbers.TheConstants.{BIT, INTEGER, BIT_VECTOR, STD_ULOGIC, STD_ULOGIC_VECTOR}
use Rattle.vd_meaning_facts.specs.Trees.{node, plain, absent, of, leaf}

abbrev pub vd_rand : Forest Resolved
vd_rand =
    node form.FunctionBody (Some 416) None 0 []
    (absent ∷ node form.Identifier (Some 416) None 0 (codes "vd_rand") [] ∷ absent ∷ absent
    ∷ plain form.ParameterList
    (plain form.ParameterDeclaration
    (absent ∷ plain form.IdentifierList (node form.Identifier (Some 415) None 0 (codes "a") [] ∷ []) ∷ absent
    ∷ plain form.SubtypeIndication
    (node form.SelectedName (Some STD_ULOGIC_VECTOR) None 0 [] (leaf form.Identifier (codes "std_ulogic_vector") ∷ []) ∷ absent ∷ []) ∷ []) ∷ [])
    ∷ node form.SelectedName (Some STD_ULOGIC) None 0 [] (leaf form.Identifier (codes "std_ulogic") ∷ [])
    ∷ plain form.DeclarativePart
    (plain form.ConstantDeclaration
    (plain form.IdentifierList (node form.Identifier (Some 489) None 0 (codes "elements") [] ∷ [])
    ∷ plain form.SubtypeIndication
    (node form.SelectedName (Some STD_ULOGIC_VECTOR) None 0 [] (leaf form.Identifier (codes "std_ulogic_vector") ∷ []) ∷ absent ∷ [])
    ∷ node form.Concatenate (Some 333) (Some STD_ULOGIC_VECTOR) 0 []
    (of form.Name STD_ULOGIC_VECTOR (node form.Identifier (Some 415) (Some STD_ULOGIC_VECTOR) 0 (codes "a") [] ∷ []) ∷ of form.Quoted STD_ULOGIC_VECTOR [] ∷ []) ∷ [])
    ∷ plain form.VariableDeclaration
    (plain form.IdentifierList (node form.Identifier (Some 490) None 0 (codes "result") [] ∷ [])
    ∷ plain form.SubtypeIndication (node form.SelectedName (Some STD_ULOGIC) None 0 [] (leaf form.Identifier (codes "std_ulogic") ∷ []) ∷ absent ∷ [])
    ∷ node form.Letter (Some 164) (Some STD_ULOGIC) 3 (codes "1") [] ∷ []) ∷ [])
    ∷ plain form.Statements
    (node form.ForLoop (Some 491) None 0 []
    (node form.Identifier (Some 491) None 0 (codes "i") []
    ∷ of form.Name INTEGER (node form.Identifier (Some 489) (Some STD_ULOGIC_VECTOR) 0 (codes "elements") [] ∷ of form.RangeAttribute INTEGER [] ∷ [])
    ∷ plain form.Statements
    (plain form.VariableAssignment
    (of form.Name STD_ULOGIC (node form.Identifier (Some 490) (Some STD_ULOGIC) 0 (codes "result") [] ∷ [])
    ∷ node form.And (Some 357) (Some STD_ULOGIC) 0 []
    (of form.Name STD_ULOGIC (node form.Identifier (Some 490) (Some STD_ULOGIC) 0 (codes "result") [] ∷ [])
    ∷ of form.Name STD_ULOGIC
    (node form.Identifier (Some 489) (Some STD_ULOGIC_VECTOR) 0 (codes "elements") []
    ∷ of form.Arguments STD_ULOGIC (of form.Name INTEGER (node form.Identifier (Some 491) (Some INTEGER) 0 (codes "i") [] ∷ []) ∷ []) ∷ []) ∷ []) ∷ []) ∷ [])
    ∷ absent ∷ [])
    ∷ plain form.ReturnStatement (of form.Name STD_ULOGIC (node form.Identifier (Some 490) (Some STD_ULOGIC) 0 (codes "result") [] ∷ []) ∷ []) ∷ [])
    ∷ plain form.FunctionClosing (absent ∷ absent ∷ []) ∷ [])

abbrev pub vd_ror1 : Forest Resolved
vd_ror1 =
    node form.FunctionBody (Some 418) None 0 []
    (absent ∷ node form.Identifier (Some 418) None 0 (codes "vd_ror1") [] ∷ absent ∷ absent
    ∷ plain form.ParameterList
    (plain form.ParameterDeclaration
    (absent ∷ plain form.IdentifierList (node form.Identifier (Some 417) None 0 (codes "a") [] ∷ []) ∷ absent
    ∷ plain form.SubtypeIndication
    (node form.SelectedName (Some STD_ULOGIC_VECTOR) None 0 [] (leaf form.Identifier (codes "std_ulogic_vector") ∷ []) ∷ absent ∷ []) ∷ []) ∷ [])
    ∷ node form.SelectedName (Some STD_ULOGIC) None 0 [] (leaf form.Identifier (codes "std_ulogic") ∷ [])
    ∷ plain form.DeclarativePart
    (plain form.ConstantDeclaration
    (plain form.IdentifierList (node form.Identifier (Some 492) None 0 (codes "elements") [] ∷ [])
    ∷ plain form.SubtypeIndication
    (node form.SelectedName (Some STD_ULOGIC_VECTOR) None 0 [] (leaf form.Identifier (codes "std_ulogic_vector") ∷ []) ∷ absent ∷ [])
    ∷ node form.Concatenate (Some 333) (Some STD_ULOGIC_VECTOR) 0 []
    (of form.Name STD_ULOGIC_VECTOR (node form.Identifier (Some 417) (Some STD_ULOGIC_VECTOR) 0 (codes "a") [] ∷ []) ∷ of form.Quoted STD_ULOGIC_VECTOR [] ∷ []) ∷ [])
    ∷ plain form.VariableDeclaration
    (plain form.IdentifierList (node form.Identifier (Some 493) None 0 (codes "result") [] ∷ [])
    ∷ plain form.SubtypeIndication (node form.SelectedName (Some STD_ULOGIC) None 0 [] (leaf form.Identifier (codes "std_ulogic") ∷ []) ∷ absent ∷ [])
    ∷ node form.Letter (Some 163) (Some STD_ULOGIC) 2 (codes "0") [] ∷ []) ∷ [])
    ∷ plain form.Statements
    (node form.ForLoop (Some 494) None 0 []
    (node form.Identifier (Some 494) None 0 (codes "i") []
    ∷ of form.Name INTEGER (node form.Identifier (Some 492) (Some STD_ULOGIC_VECTOR) 0 (codes "elements") [] ∷ of form.RangeAttribute INTEGER [] ∷ [])
    ∷ plain form.Statements
    (plain form.VariableAssignment
    (of form.Name STD_ULOGIC (node form.Identifier (Some 493) (Some STD_ULOGIC) 0 (codes "result") [] ∷ [])
    ∷ node form.Or (Some 359) (Some STD_ULOGIC) 0 []
    (of form.Name STD_ULOGIC (node form.Identifier (Some 493) (Some STD_ULOGIC) 0 (codes "result") [] ∷ [])
    ∷ of form.Name STD_ULOGIC
    (node form.Identifier (Some 492) (Some STD_ULOGIC_VECTOR) 0 (codes "elements") []
    ∷ of form.Arguments STD_ULOGIC (of form.Name INTEGER (node form.Identifier (Some 494) (Some INTEGER) 0 (codes "i") [] ∷ []) ∷ []) ∷ []) ∷ []) ∷ []) ∷ [])
    ∷ absent ∷ [])
    ∷ plain form.ReturnStatement (of form.Name STD_ULOGIC (node form.Identifier (Some 493) (Some STD_ULOGIC) 0 (codes "result") [] ∷ []) ∷ []) ∷ [])
    ∷ plain form.FunctionClosing (absent ∷ absent ∷ []) ∷ [])

abbrev pub vd_rxor : Forest Resolved
vd_rxor =
    node form.FunctionBody (Some 420) None 0 []
    (absent ∷ node form.Identifier (Some 420) None 0 (codes "vd_rxor") [] ∷ absent ∷ absent
    ∷ plain form.ParameterList
    (plain form.ParameterDeclaration
    (absent ∷ plain form.IdentifierList (node form.Identifier (Some 419) None 0 (codes "a") [] ∷ []) ∷ absent
    ∷ plain form.SubtypeIndication
    (node form.SelectedName (Some STD_ULOGIC_VECTOR) None 0 [] (leaf form.Identifier (codes "std_ulogic_vector") ∷ []) ∷ absent ∷ []) ∷ []) ∷ [])
    ∷ node form.SelectedName (Some STD_ULOGIC) None 0 [] (leaf form.Identifier (codes "std_ulogic") ∷ [])
    ∷ plain form.DeclarativePart
    (plain form.ConstantDeclaration
    (plain form.IdentifierList (node form.Identifier (Some 495) None 0 (codes "elements") [] ∷ [])
    ∷ plain form.SubtypeIndication
    (node form.SelectedName (Some STD_ULOGIC_VECTOR) None 0 [] (leaf form.Identifier (codes "std_ulogic_vector") ∷ []) ∷ absent ∷ [])
    ∷ node form.Concatenate (Some 333) (Some STD_ULOGIC_VECTOR) 0 []
    (of form.Name STD_ULOGIC_VECTOR (node form.Identifier (Some 419) (Some STD_ULOGIC_VECTOR) 0 (codes "a") [] ∷ []) ∷ of form.Quoted STD_ULOGIC_VECTOR [] ∷ []) ∷ [])
    ∷ plain form.VariableDeclaration
    (plain form.IdentifierList (node form.Identifier (Some 496) None 0 (codes "result") [] ∷ [])
    ∷ plain form.SubtypeIndication (node form.SelectedName (Some STD_ULOGIC) None 0 [] (leaf form.Identifier (codes "std_ulogic") ∷ []) ∷ absent ∷ [])
    ∷ node form.Letter (Some 163) (Some STD_ULOGIC) 2 (codes "0") [] ∷ []) ∷ [])
    ∷ plain form.Statements
    (node form.ForLoop (Some 497) None 0 []
    (node form.Identifier (Some 497) None 0 (codes "i") []
    ∷ of form.Name INTEGER (node form.Identifier (Some 495) (Some STD_ULOGIC_VECTOR) 0 (codes "elements") [] ∷ of form.RangeAttribute INTEGER [] ∷ [])
    ∷ plain form.Statements
    (plain form.VariableAssignment
    (of form.Name STD_ULOGIC (node form.Identifier (Some 496) (Some STD_ULOGIC) 0 (codes "result") [] ∷ [])
    ∷ node form.Xor (Some 361) (Some STD_ULOGIC) 0 []
    (of form.Name STD_ULOGIC (node form.Identifier (Some 496) (Some STD_ULOGIC) 0 (codes "result") [] ∷ [])
    ∷ of form.Name STD_ULOGIC
    (node form.Identifier (Some 495) (Some STD_ULOGIC_VECTOR) 0 (codes "elements") []
    ∷ of form.Arguments STD_ULOGIC (of form.Name INTEGER (node form.Identifier (Some 497) (Some INTEGER) 0 (codes "i") [] ∷ []) ∷ []) ∷ []) ∷ []) ∷ []) ∷ [])
    ∷ absent ∷ [])
    ∷ plain form.ReturnStatement (of form.Name STD_ULOGIC (node form.Identifier (Some 496) (Some STD_ULOGIC) 0 (codes "result") [] ∷ []) ∷ []) ∷ [])
    ∷ plain form.FunctionClosing (absent ∷ absent ∷ []) ∷ [])

abbrev pub vd_brand : Forest Resolved
vd_brand =
    node form.FunctionBody (Some 422) None 0 []
    (absent ∷ node form.Identifier (Some 422) None 0 (codes "vd_brand") [] ∷ absent ∷ absent
    ∷ plain form.ParameterList
    (plain form.ParameterDeclaration
    (absent ∷ plain form.IdentifierList (node form.Identifier (Some 421) None 0 (codes "a") [] ∷ []) ∷ absent
    ∷ plain form.SubtypeIndication (node form.SelectedName (Some BIT_VECTOR) None 0 [] (leaf form.Identifier (codes "bit_vector") ∷ []) ∷ absent ∷ []) ∷ []) ∷ [])
    ∷ node form.SelectedName (Some BIT) None 0 [] (leaf form.Identifier (codes "bit") ∷ [])
    ∷ plain form.DeclarativePart
    (plain form.ConstantDeclaration
    (plain form.IdentifierList (node form.Identifier (Some 498) None 0 (codes "elements") [] ∷ [])
    ∷ plain form.SubtypeIndication (node form.SelectedName (Some BIT_VECTOR) None 0 [] (leaf form.Identifier (codes "bit_vector") ∷ []) ∷ absent ∷ [])
    ∷ node form.Concatenate (Some 307) (Some BIT_VECTOR) 0 []
    (of form.Name BIT_VECTOR (node form.Identifier (Some 421) (Some BIT_VECTOR) 0 (codes "a") [] ∷ []) ∷ of form.Quoted BIT_VECTOR [] ∷ []) ∷ [])
    ∷ plain form.VariableDeclaration
    (plain form.IdentifierList (node form.Identifier (Some 499) None 0 (codes "result") [] ∷ [])
    ∷ plain form.SubtypeIndication (node form.SelectedName (Some BIT) None 0 [] (leaf form.Identifier (codes "bit") ∷ []) ∷ absent ∷ [])
    ∷ node form.Letter (Some 10) (Some BIT) 1 (codes "1") [] ∷ []) ∷ [])
    ∷ plain form.Statements
    (node form.ForLoop (Some 500) None 0 []
    (node form.Identifier (Some 500) None 0 (codes "i") []
    ∷ of form.Name INTEGER (node form.Identifier (Some 498) (Some BIT_VECTOR) 0 (codes "elements") [] ∷ of form.RangeAttribute INTEGER [] ∷ [])
    ∷ plain form.Statements
    (plain form.VariableAssignment
    (of form.Name BIT (node form.Identifier (Some 499) (Some BIT) 0 (codes "result") [] ∷ [])
    ∷ node form.And (Some 204) (Some BIT) 0 []
    (of form.Name BIT (node form.Identifier (Some 499) (Some BIT) 0 (codes "result") [] ∷ [])
    ∷ of form.Name BIT
    (node form.Identifier (Some 498) (Some BIT_VECTOR) 0 (codes "elements") []
    ∷ of form.Arguments BIT (of form.Name INTEGER (node form.Identifier (Some 500) (Some INTEGER) 0 (codes "i") [] ∷ []) ∷ []) ∷ []) ∷ []) ∷ []) ∷ [])
    ∷ absent ∷ [])
    ∷ plain form.ReturnStatement (of form.Name BIT (node form.Identifier (Some 499) (Some BIT) 0 (codes "result") [] ∷ []) ∷ []) ∷ [])
    ∷ plain form.FunctionClosing (absent ∷ absent ∷ []) ∷ [])

abbrev pub vd_bror : Forest Resolved
vd_bror =
    node form.FunctionBody (Some 424) None 0 []
    (absent ∷ node form.Identifier (Some 424) None 0 (codes "vd_bror") [] ∷ absent ∷ absent
    ∷ plain form.ParameterList
    (plain form.ParameterDeclaration
    (absent ∷ plain form.IdentifierList (node form.Identifier (Some 423) None 0 (codes "a") [] ∷ []) ∷ absent
    ∷ plain form.SubtypeIndication (node form.SelectedName (Some BIT_VECTOR) None 0 [] (leaf form.Identifier (codes "bit_vector") ∷ []) ∷ absent ∷ []) ∷ []) ∷ [])
    ∷ node form.SelectedName (Some BIT) None 0 [] (leaf form.Identifier (codes "bit") ∷ [])
    ∷ plain form.DeclarativePart
    (plain form.ConstantDeclaration
    (plain form.IdentifierList (node form.Identifier (Some 501) None 0 (codes "elements") [] ∷ [])
    ∷ plain form.SubtypeIndication (node form.SelectedName (Some BIT_VECTOR) None 0 [] (leaf form.Identifier (codes "bit_vector") ∷ []) ∷ absent ∷ [])
    ∷ node form.Concatenate (Some 307) (Some BIT_VECTOR) 0 []
    (of form.Name BIT_VECTOR (node form.Identifier (Some 423) (Some BIT_VECTOR) 0 (codes "a") [] ∷ []) ∷ of form.Quoted BIT_VECTOR [] ∷ []) ∷ [])
    ∷ plain form.VariableDeclaration
    (plain form.IdentifierList (node form.Identifier (Some 502) None 0 (codes "result") [] ∷ [])
    ∷ plain form.SubtypeIndication (node form.SelectedName (Some BIT) None 0 [] (leaf form.Identifier (codes "bit") ∷ []) ∷ absent ∷ [])
    ∷ node form.Letter (Some 9) (Some BIT) 0 (codes "0") [] ∷ []) ∷ [])
    ∷ plain form.Statements
    (node form.ForLoop (Some 503) None 0 []
    (node form.Identifier (Some 503) None 0 (codes "i") []
    ∷ of form.Name INTEGER (node form.Identifier (Some 501) (Some BIT_VECTOR) 0 (codes "elements") [] ∷ of form.RangeAttribute INTEGER [] ∷ [])
    ∷ plain form.Statements
    (plain form.VariableAssignment
    (of form.Name BIT (node form.Identifier (Some 502) (Some BIT) 0 (codes "result") [] ∷ [])
    ∷ node form.Or (Some 205) (Some BIT) 0 []
    (of form.Name BIT (node form.Identifier (Some 502) (Some BIT) 0 (codes "result") [] ∷ [])
    ∷ of form.Name BIT
    (node form.Identifier (Some 501) (Some BIT_VECTOR) 0 (codes "elements") []
    ∷ of form.Arguments BIT (of form.Name INTEGER (node form.Identifier (Some 503) (Some INTEGER) 0 (codes "i") [] ∷ []) ∷ []) ∷ []) ∷ []) ∷ []) ∷ [])
    ∷ absent ∷ [])
    ∷ plain form.ReturnStatement (of form.Name BIT (node form.Identifier (Some 502) (Some BIT) 0 (codes "result") [] ∷ []) ∷ []) ∷ [])
    ∷ plain form.FunctionClosing (absent ∷ absent ∷ []) ∷ [])

abbrev pub vd_brxor : Forest Resolved
vd_brxor =
    node form.FunctionBody (Some 426) None 0 []
    (absent ∷ node form.Identifier (Some 426) None 0 (codes "vd_brxor") [] ∷ absent ∷ absent
    ∷ plain form.ParameterList
    (plain form.ParameterDeclaration
    (absent ∷ plain form.IdentifierList (node form.Identifier (Some 425) None 0 (codes "a") [] ∷ []) ∷ absent
    ∷ plain form.SubtypeIndication (node form.SelectedName (Some BIT_VECTOR) None 0 [] (leaf form.Identifier (codes "bit_vector") ∷ []) ∷ absent ∷ []) ∷ []) ∷ [])
    ∷ node form.SelectedName (Some BIT) None 0 [] (leaf form.Identifier (codes "bit") ∷ [])
    ∷ plain form.DeclarativePart
    (plain form.ConstantDeclaration
    (plain form.IdentifierList (node form.Identifier (Some 504) None 0 (codes "elements") [] ∷ [])
    ∷ plain form.SubtypeIndication (node form.SelectedName (Some BIT_VECTOR) None 0 [] (leaf form.Identifier (codes "bit_vector") ∷ []) ∷ absent ∷ [])
    ∷ node form.Concatenate (Some 307) (Some BIT_VECTOR) 0 []
    (of form.Name BIT_VECTOR (node form.Identifier (Some 425) (Some BIT_VECTOR) 0 (codes "a") [] ∷ []) ∷ of form.Quoted BIT_VECTOR [] ∷ []) ∷ [])
    ∷ plain form.VariableDeclaration
    (plain form.IdentifierList (node form.Identifier (Some 505) None 0 (codes "result") [] ∷ [])
    ∷ plain form.SubtypeIndication (node form.SelectedName (Some BIT) None 0 [] (leaf form.Identifier (codes "bit") ∷ []) ∷ absent ∷ [])
    ∷ node form.Letter (Some 9) (Some BIT) 0 (codes "0") [] ∷ []) ∷ [])
    ∷ plain form.Statements
    (node form.ForLoop (Some 506) None 0 []
    (node form.Identifier (Some 506) None 0 (codes "i") []
    ∷ of form.Name INTEGER (node form.Identifier (Some 504) (Some BIT_VECTOR) 0 (codes "elements") [] ∷ of form.RangeAttribute INTEGER [] ∷ [])
    ∷ plain form.Statements
    (plain form.VariableAssignment
    (of form.Name BIT (node form.Identifier (Some 505) (Some BIT) 0 (codes "result") [] ∷ [])
    ∷ node form.Xor (Some 208) (Some BIT) 0 []
    (of form.Name BIT (node form.Identifier (Some 505) (Some BIT) 0 (codes "result") [] ∷ [])
    ∷ of form.Name BIT
    (node form.Identifier (Some 504) (Some BIT_VECTOR) 0 (codes "elements") []
    ∷ of form.Arguments BIT (of form.Name INTEGER (node form.Identifier (Some 506) (Some INTEGER) 0 (codes "i") [] ∷ []) ∷ []) ∷ []) ∷ []) ∷ []) ∷ [])
    ∷ absent ∷ [])
    ∷ plain form.ReturnStatement (of form.Name BIT (node form.Identifier (Some 505) (Some BIT) 0 (codes "result") [] ∷ []) ∷ []) ∷ [])
    ∷ plain form.FunctionClosing (absent ∷ absent ∷ []) ∷ [])
