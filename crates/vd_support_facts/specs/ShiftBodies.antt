-- Bodies of functions of the support package. Written by tools/resolved-trees from examples/support/vdown_support.vhd, which is of revision 1993.
use Rattle.std.specs.Prelude.{[], ◌∷◌, Some, None, codes}
use Rattle.vd_forest.specs.Forest.{Forest}
use Rattle.vd_forms.specs.declared.form.Form.TheVariants as form
use Rattle.vd_resolved.specs.declared.node.Resolved.{Resolved}
use Rattle.vd_predefined.specs.declared.numbers.TheConstants.{BOOLEAN, INTEGER, STD_ULOGIC, STD_ULOGIC_VECTOR}
use Rattle.vd_meaning_facts.specs.Trees.{node, plain, absent, of, leaf}

abbrev pub vd_sll : Forest Resolved
vd_sll =
    node form.FunctionBody (Some 465) None 0 []
    (absent ∷ node form.Identifier (Some 465) None 0 (codes "vd_sll") [] ∷ absent ∷ absent
    ∷ plain form.ParameterList
    (plain form.ParameterDeclaration
    (absent ∷ plain form.IdentifierList (node form.Identifier (Some 463) None 0 (codes "l") [] ∷ []) ∷ absent
    ∷ plain form.SubtypeIndication
    (node form.SelectedName (Some STD_ULOGIC_VECTOR) None 0 [] (leaf form.Identifier (codes "std_ulogic_vector") ∷ []) ∷ absent ∷ []) ∷ [])
    ∷ plain form.ParameterDeclaration
    (absent ∷ plain form.IdentifierList (node form.Identifier (Some 464) None 0 (codes "r") [] ∷ []) ∷ absent
    ∷ plain form.SubtypeIndication (node form.SelectedName (Some INTEGER) None 0 [] (leaf form.Identifier (codes "integer") ∷ []) ∷ absent ∷ []) ∷ []) ∷ [])
    ∷ node form.SelectedName (Some STD_ULOGIC_VECTOR) None 0 [] (leaf form.Identifier (codes "std_ulogic_vector") ∷ [])
    ∷ plain form.DeclarativePart
    (plain form.ConstantDeclaration
    (plain form.IdentifierList (node form.Identifier (Some 531) None 0 (codes "bounds") [] ∷ [])
    ∷ plain form.SubtypeIndication
    (node form.SelectedName (Some STD_ULOGIC_VECTOR) None 0 [] (leaf form.Identifier (codes "std_ulogic_vector") ∷ []) ∷ absent ∷ [])
    ∷ node form.Not (Some 372) (Some STD_ULOGIC_VECTOR) 0 []
    (of form.Name STD_ULOGIC_VECTOR (node form.Identifier (Some 463) (Some STD_ULOGIC_VECTOR) 0 (codes "l") [] ∷ []) ∷ []) ∷ [])
    ∷ plain form.ConstantDeclaration
    (plain form.IdentifierList (node form.Identifier (Some 532) None 0 (codes "elements") [] ∷ [])
    ∷ plain form.SubtypeIndication
    (node form.SelectedName (Some STD_ULOGIC_VECTOR) None 0 [] (leaf form.Identifier (codes "std_ulogic_vector") ∷ [])
    ∷ plain form.IndexConstraint
    (of form.Name INTEGER (node form.Identifier (Some 531) (Some STD_ULOGIC_VECTOR) 0 (codes "bounds") [] ∷ of form.RangeAttribute INTEGER [] ∷ []) ∷ []) ∷ [])
    ∷ of form.Name STD_ULOGIC_VECTOR (node form.Identifier (Some 463) (Some STD_ULOGIC_VECTOR) 0 (codes "l") [] ∷ []) ∷ [])
    ∷ plain form.VariableDeclaration
    (plain form.IdentifierList (node form.Identifier (Some 533) None 0 (codes "result") [] ∷ [])
    ∷ plain form.SubtypeIndication
    (node form.SelectedName (Some STD_ULOGIC_VECTOR) None 0 [] (leaf form.Identifier (codes "std_ulogic_vector") ∷ [])
    ∷ plain form.IndexConstraint
    (of form.Name INTEGER (node form.Identifier (Some 531) (Some STD_ULOGIC_VECTOR) 0 (codes "bounds") [] ∷ of form.RangeAttribute INTEGER [] ∷ []) ∷ []) ∷ [])
    ∷ of form.Aggregate STD_ULOGIC_VECTOR (plain form.OthersAssociation (node form.Letter (Some 163) (Some STD_ULOGIC) 2 (codes "0") [] ∷ []) ∷ []) ∷ []) ∷ [])
    ∷ plain form.Statements
    (node form.ForLoop (Some 534) None 0 []
    (node form.Identifier (Some 534) None 0 (codes "i") []
    ∷ of form.Name INTEGER (node form.Identifier (Some 531) (Some STD_ULOGIC_VECTOR) 0 (codes "bounds") [] ∷ of form.RangeAttribute INTEGER [] ∷ [])
    ∷ plain form.Statements
    (plain form.IfStatement
    (node form.Or (Some 188) (Some BOOLEAN) 0 []
    (node form.And (Some 187) (Some BOOLEAN) 0 []
    (node form.Less (Some 237) (Some BOOLEAN) 0 []
    (of form.Name INTEGER (node form.Identifier (Some 464) (Some INTEGER) 0 (codes "r") [] ∷ []) ∷ node form.Number None (Some INTEGER) 0 (codes "0") [] ∷ [])
    ∷ node form.Greater (Some 239) (Some BOOLEAN) 0 []
    (of form.Name INTEGER (node form.Identifier (Some 534) (Some INTEGER) 0 (codes "i") [] ∷ [])
    ∷ node form.Negation (Some 242) (Some INTEGER) 0 [] (of form.Name INTEGER (node form.Identifier (Some 464) (Some INTEGER) 0 (codes "r") [] ∷ []) ∷ []) ∷ []) ∷ [])
    ∷ node form.And (Some 187) (Some BOOLEAN) 0 []
    (node form.AtLeast (Some 240) (Some BOOLEAN) 0 []
    (of form.Name INTEGER (node form.Identifier (Some 464) (Some INTEGER) 0 (codes "r") [] ∷ []) ∷ node form.Number None (Some INTEGER) 0 (codes "0") [] ∷ [])
    ∷ node form.AtMost (Some 238) (Some BOOLEAN) 0 []
    (of form.Name INTEGER (node form.Identifier (Some 534) (Some INTEGER) 0 (codes "i") [] ∷ [])
    ∷ node form.Subtract (Some 245) (Some INTEGER) 0 []
    (of form.Name INTEGER
    (node form.Identifier (Some 531) (Some STD_ULOGIC_VECTOR) 0 (codes "bounds") []
    ∷ of form.Attribute INTEGER (leaf form.Identifier (codes "right") ∷ []) ∷ [])
    ∷ of form.Name INTEGER (node form.Identifier (Some 464) (Some INTEGER) 0 (codes "r") [] ∷ []) ∷ []) ∷ []) ∷ []) ∷ [])
    ∷ plain form.Statements
    (plain form.VariableAssignment
    (of form.Name STD_ULOGIC
    (node form.Identifier (Some 533) (Some STD_ULOGIC_VECTOR) 0 (codes "result") []
    ∷ of form.Arguments STD_ULOGIC (of form.Name INTEGER (node form.Identifier (Some 534) (Some INTEGER) 0 (codes "i") [] ∷ []) ∷ []) ∷ [])
    ∷ of form.Name STD_ULOGIC
    (node form.Identifier (Some 532) (Some STD_ULOGIC_VECTOR) 0 (codes "elements") []
    ∷ of form.Arguments STD_ULOGIC
    (node form.Add (Some 244) (Some INTEGER) 0 []
    (of form.Name INTEGER (node form.Identifier (Some 534) (Some INTEGER) 0 (codes "i") [] ∷ [])
    ∷ of form.Name INTEGER (node form.Identifier (Some 464) (Some INTEGER) 0 (codes "r") [] ∷ []) ∷ []) ∷ []) ∷ []) ∷ []) ∷ [])
    ∷ plain form.ElsifBranches [] ∷ absent ∷ absent ∷ []) ∷ [])
    ∷ absent ∷ [])
    ∷ plain form.ReturnStatement (of form.Name STD_ULOGIC_VECTOR (node form.Identifier (Some 533) (Some STD_ULOGIC_VECTOR) 0 (codes "result") [] ∷ []) ∷ []) ∷ [])
    ∷ plain form.FunctionClosing (absent ∷ absent ∷ []) ∷ [])

abbrev pub vd_srl : Forest Resolved
vd_srl =
    node form.FunctionBody (Some 468) None 0 []
    (absent ∷ node form.Identifier (Some 468) None 0 (codes "vd_srl") [] ∷ absent ∷ absent
    ∷ plain form.ParameterList
    (plain form.ParameterDeclaration
    (absent ∷ plain form.IdentifierList (node form.Identifier (Some 466) None 0 (codes "l") [] ∷ []) ∷ absent
    ∷ plain form.SubtypeIndication
    (node form.SelectedName (Some STD_ULOGIC_VECTOR) None 0 [] (leaf form.Identifier (codes "std_ulogic_vector") ∷ []) ∷ absent ∷ []) ∷ [])
    ∷ plain form.ParameterDeclaration
    (absent ∷ plain form.IdentifierList (node form.Identifier (Some 467) None 0 (codes "r") [] ∷ []) ∷ absent
    ∷ plain form.SubtypeIndication (node form.SelectedName (Some INTEGER) None 0 [] (leaf form.Identifier (codes "integer") ∷ []) ∷ absent ∷ []) ∷ []) ∷ [])
    ∷ node form.SelectedName (Some STD_ULOGIC_VECTOR) None 0 [] (leaf form.Identifier (codes "std_ulogic_vector") ∷ []) ∷ plain form.DeclarativePart []
    ∷ plain form.Statements
    (plain form.ReturnStatement
    (of form.Name STD_ULOGIC_VECTOR
    (node form.Identifier (Some 465) None 0 (codes "vd_sll") []
    ∷ node form.Arguments (Some 465) (Some STD_ULOGIC_VECTOR) 0 []
    (of form.Name STD_ULOGIC_VECTOR (node form.Identifier (Some 466) (Some STD_ULOGIC_VECTOR) 0 (codes "l") [] ∷ [])
    ∷ node form.Negation (Some 242) (Some INTEGER) 0 [] (of form.Name INTEGER (node form.Identifier (Some 467) (Some INTEGER) 0 (codes "r") [] ∷ []) ∷ []) ∷ []) ∷ []) ∷ []) ∷ [])
    ∷ plain form.FunctionClosing (absent ∷ absent ∷ []) ∷ [])

abbrev pub vd_rol : Forest Resolved
vd_rol =
    node form.FunctionBody (Some 471) None 0 []
    (absent ∷ node form.Identifier (Some 471) None 0 (codes "vd_rol") [] ∷ absent ∷ absent
    ∷ plain form.ParameterList
    (plain form.ParameterDeclaration
    (absent ∷ plain form.IdentifierList (node form.Identifier (Some 469) None 0 (codes "l") [] ∷ []) ∷ absent
    ∷ plain form.SubtypeIndication
    (node form.SelectedName (Some STD_ULOGIC_VECTOR) None 0 [] (leaf form.Identifier (codes "std_ulogic_vector") ∷ []) ∷ absent ∷ []) ∷ [])
    ∷ plain form.ParameterDeclaration
    (absent ∷ plain form.IdentifierList (node form.Identifier (Some 470) None 0 (codes "r") [] ∷ []) ∷ absent
    ∷ plain form.SubtypeIndication (node form.SelectedName (Some INTEGER) None 0 [] (leaf form.Identifier (codes "integer") ∷ []) ∷ absent ∷ []) ∷ []) ∷ [])
    ∷ node form.SelectedName (Some STD_ULOGIC_VECTOR) None 0 [] (leaf form.Identifier (codes "std_ulogic_vector") ∷ [])
    ∷ plain form.DeclarativePart
    (plain form.ConstantDeclaration
    (plain form.IdentifierList (node form.Identifier (Some 535) None 0 (codes "bounds") [] ∷ [])
    ∷ plain form.SubtypeIndication
    (node form.SelectedName (Some STD_ULOGIC_VECTOR) None 0 [] (leaf form.Identifier (codes "std_ulogic_vector") ∷ []) ∷ absent ∷ [])
    ∷ node form.Not (Some 372) (Some STD_ULOGIC_VECTOR) 0 []
    (of form.Name STD_ULOGIC_VECTOR (node form.Identifier (Some 469) (Some STD_ULOGIC_VECTOR) 0 (codes "l") [] ∷ []) ∷ []) ∷ [])
    ∷ plain form.ConstantDeclaration
    (plain form.IdentifierList (node form.Identifier (Some 536) None 0 (codes "elements") [] ∷ [])
    ∷ plain form.SubtypeIndication
    (node form.SelectedName (Some STD_ULOGIC_VECTOR) None 0 [] (leaf form.Identifier (codes "std_ulogic_vector") ∷ [])
    ∷ plain form.IndexConstraint
    (of form.Name INTEGER (node form.Identifier (Some 535) (Some STD_ULOGIC_VECTOR) 0 (codes "bounds") [] ∷ of form.RangeAttribute INTEGER [] ∷ []) ∷ []) ∷ [])
    ∷ of form.Name STD_ULOGIC_VECTOR (node form.Identifier (Some 469) (Some STD_ULOGIC_VECTOR) 0 (codes "l") [] ∷ []) ∷ [])
    ∷ plain form.VariableDeclaration
    (plain form.IdentifierList (node form.Identifier (Some 537) None 0 (codes "result") [] ∷ [])
    ∷ plain form.SubtypeIndication
    (node form.SelectedName (Some STD_ULOGIC_VECTOR) None 0 [] (leaf form.Identifier (codes "std_ulogic_vector") ∷ [])
    ∷ plain form.IndexConstraint
    (of form.Name INTEGER (node form.Identifier (Some 535) (Some STD_ULOGIC_VECTOR) 0 (codes "bounds") [] ∷ of form.RangeAttribute INTEGER [] ∷ []) ∷ []) ∷ [])
    ∷ of form.Aggregate STD_ULOGIC_VECTOR (plain form.OthersAssociation (node form.Letter (Some 163) (Some STD_ULOGIC) 2 (codes "0") [] ∷ []) ∷ []) ∷ [])
    ∷ plain form.VariableDeclaration
    (plain form.IdentifierList (node form.Identifier (Some 538) None 0 (codes "count") [] ∷ [])
    ∷ plain form.SubtypeIndication (node form.SelectedName (Some INTEGER) None 0 [] (leaf form.Identifier (codes "integer") ∷ []) ∷ absent ∷ []) ∷ absent ∷ []) ∷ [])
    ∷ plain form.Statements
    (plain form.IfStatement
    (node form.Equal (Some 235) (Some BOOLEAN) 0 []
    (of form.Name INTEGER
    (node form.Identifier (Some 535) (Some STD_ULOGIC_VECTOR) 0 (codes "bounds") []
    ∷ of form.Attribute INTEGER (leaf form.Identifier (codes "right") ∷ []) ∷ [])
    ∷ node form.Number None (Some INTEGER) 0 (codes "0") [] ∷ [])
    ∷ plain form.Statements
    (plain form.ReturnStatement (of form.Name STD_ULOGIC_VECTOR (node form.Identifier (Some 537) (Some STD_ULOGIC_VECTOR) 0 (codes "result") [] ∷ []) ∷ []) ∷ [])
    ∷ plain form.ElsifBranches [] ∷ absent ∷ absent ∷ [])
    ∷ plain form.VariableAssignment
    (of form.Name INTEGER (node form.Identifier (Some 538) (Some INTEGER) 0 (codes "count") [] ∷ [])
    ∷ node form.Modulo (Some 248) (Some INTEGER) 0 []
    (of form.Name INTEGER (node form.Identifier (Some 470) (Some INTEGER) 0 (codes "r") [] ∷ [])
    ∷ of form.Name INTEGER
    (node form.Identifier (Some 535) (Some STD_ULOGIC_VECTOR) 0 (codes "bounds") []
    ∷ of form.Attribute INTEGER (leaf form.Identifier (codes "right") ∷ []) ∷ []) ∷ []) ∷ [])
    ∷ node form.ForLoop (Some 539) None 0 []
    (node form.Identifier (Some 539) None 0 (codes "i") []
    ∷ of form.Name INTEGER (node form.Identifier (Some 535) (Some STD_ULOGIC_VECTOR) 0 (codes "bounds") [] ∷ of form.RangeAttribute INTEGER [] ∷ [])
    ∷ plain form.Statements
    (plain form.IfStatement
    (node form.AtMost (Some 238) (Some BOOLEAN) 0 []
    (of form.Name INTEGER (node form.Identifier (Some 539) (Some INTEGER) 0 (codes "i") [] ∷ [])
    ∷ node form.Subtract (Some 245) (Some INTEGER) 0 []
    (of form.Name INTEGER
    (node form.Identifier (Some 535) (Some STD_ULOGIC_VECTOR) 0 (codes "bounds") []
    ∷ of form.Attribute INTEGER (leaf form.Identifier (codes "right") ∷ []) ∷ [])
    ∷ of form.Name INTEGER (node form.Identifier (Some 538) (Some INTEGER) 0 (codes "count") [] ∷ []) ∷ []) ∷ [])
    ∷ plain form.Statements
    (plain form.VariableAssignment
    (of form.Name STD_ULOGIC
    (node form.Identifier (Some 537) (Some STD_ULOGIC_VECTOR) 0 (codes "result") []
    ∷ of form.Arguments STD_ULOGIC (of form.Name INTEGER (node form.Identifier (Some 539) (Some INTEGER) 0 (codes "i") [] ∷ []) ∷ []) ∷ [])
    ∷ of form.Name STD_ULOGIC
    (node form.Identifier (Some 536) (Some STD_ULOGIC_VECTOR) 0 (codes "elements") []
    ∷ of form.Arguments STD_ULOGIC
    (node form.Add (Some 244) (Some INTEGER) 0 []
    (of form.Name INTEGER (node form.Identifier (Some 539) (Some INTEGER) 0 (codes "i") [] ∷ [])
    ∷ of form.Name INTEGER (node form.Identifier (Some 538) (Some INTEGER) 0 (codes "count") [] ∷ []) ∷ []) ∷ []) ∷ []) ∷ []) ∷ [])
    ∷ plain form.ElsifBranches []
    ∷ plain form.ElseBranch
    (plain form.VariableAssignment
    (of form.Name STD_ULOGIC
    (node form.Identifier (Some 537) (Some STD_ULOGIC_VECTOR) 0 (codes "result") []
    ∷ of form.Arguments STD_ULOGIC (of form.Name INTEGER (node form.Identifier (Some 539) (Some INTEGER) 0 (codes "i") [] ∷ []) ∷ []) ∷ [])
    ∷ of form.Name STD_ULOGIC
    (node form.Identifier (Some 536) (Some STD_ULOGIC_VECTOR) 0 (codes "elements") []
    ∷ of form.Arguments STD_ULOGIC
    (node form.Subtract (Some 245) (Some INTEGER) 0 []
    (of form.Name INTEGER (node form.Identifier (Some 539) (Some INTEGER) 0 (codes "i") [] ∷ [])
    ∷ node form.Subtract (Some 245) (Some INTEGER) 0 []
    (of form.Name INTEGER
    (node form.Identifier (Some 535) (Some STD_ULOGIC_VECTOR) 0 (codes "bounds") []
    ∷ of form.Attribute INTEGER (leaf form.Identifier (codes "right") ∷ []) ∷ [])
    ∷ of form.Name INTEGER (node form.Identifier (Some 538) (Some INTEGER) 0 (codes "count") [] ∷ []) ∷ []) ∷ []) ∷ []) ∷ []) ∷ []) ∷ [])
    ∷ absent ∷ []) ∷ [])
    ∷ absent ∷ [])
    ∷ plain form.ReturnStatement (of form.Name STD_ULOGIC_VECTOR (node form.Identifier (Some 537) (Some STD_ULOGIC_VECTOR) 0 (codes "result") [] ∷ []) ∷ []) ∷ [])
    ∷ plain form.FunctionClosing (absent ∷ absent ∷ []) ∷ [])

abbrev pub vd_ror : Forest Resolved
vd_ror =
    node form.FunctionBody (Some 474) None 0 []
    (absent ∷ node form.Identifier (Some 474) None 0 (codes "vd_ror") [] ∷ absent ∷ absent
    ∷ plain form.ParameterList
    (plain form.ParameterDeclaration
    (absent ∷ plain form.IdentifierList (node form.Identifier (Some 472) None 0 (codes "l") [] ∷ []) ∷ absent
    ∷ plain form.SubtypeIndication
    (node form.SelectedName (Some STD_ULOGIC_VECTOR) None 0 [] (leaf form.Identifier (codes "std_ulogic_vector") ∷ []) ∷ absent ∷ []) ∷ [])
    ∷ plain form.ParameterDeclaration
    (absent ∷ plain form.IdentifierList (node form.Identifier (Some 473) None 0 (codes "r") [] ∷ []) ∷ absent
    ∷ plain form.SubtypeIndication (node form.SelectedName (Some INTEGER) None 0 [] (leaf form.Identifier (codes "integer") ∷ []) ∷ absent ∷ []) ∷ []) ∷ [])
    ∷ node form.SelectedName (Some STD_ULOGIC_VECTOR) None 0 [] (leaf form.Identifier (codes "std_ulogic_vector") ∷ []) ∷ plain form.DeclarativePart []
    ∷ plain form.Statements
    (plain form.ReturnStatement
    (of form.Name STD_ULOGIC_VECTOR
    (node form.Identifier (Some 471) None 0 (codes "vd_rol") []
    ∷ node form.Arguments (Some 471) (Some STD_ULOGIC_VECTOR) 0 []
    (of form.Name STD_ULOGIC_VECTOR (node form.Identifier (Some 472) (Some STD_ULOGIC_VECTOR) 0 (codes "l") [] ∷ [])
    ∷ node form.Negation (Some 242) (Some INTEGER) 0 [] (of form.Name INTEGER (node form.Identifier (Some 473) (Some INTEGER) 0 (codes "r") [] ∷ []) ∷ []) ∷ []) ∷ []) ∷ []) ∷ [])
    ∷ plain form.FunctionClosing (absent ∷ absent ∷ []) ∷ [])
