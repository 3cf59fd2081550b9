-- Bodies of functions of the support package. Written by tools/resolved-trees from examples/support/vdown_support.vhd, which is of revision 1993.
use Rattle.std.specs.Prelude.{[], ◌∷◌, Some, None, codes}
use Rattle.vd_forest.specs.Forest.{Forest}
use Rattle.vd_forms.specs.declared.form.Form.TheVariants as form
use Rattle.vd_resolved.specs.declared.node.Resolved.{Resolved}
use Rattle.vd_predefined.specs.declared.numbers.TheConstants.{CHARACTER, INTEGER, STRING, STD_ULOGIC, STD_ULOGIC_VECTOR}
use Rattle.vd_meaning_facts.specs.Trees.{node, plain, absent, of, leaf}

abbrev pub vd_str : Forest Resolved
vd_str =
    node form.FunctionBody (Some 476) None 0 []
    (absent ∷ node form.Identifier (Some 476) None 0 (codes "vd_str") [] ∷ absent ∷ absent
    ∷ plain form.ParameterList
    (plain form.ParameterDeclaration
    (absent ∷ plain form.IdentifierList (node form.Identifier (Some 475) None 0 (codes "a") [] ∷ []) ∷ absent
    ∷ plain form.SubtypeIndication (node form.SelectedName (Some STD_ULOGIC) None 0 [] (leaf form.Identifier (codes "std_ulogic") ∷ []) ∷ absent ∷ []) ∷ []) ∷ [])
    ∷ node form.SelectedName (Some STRING) None 0 [] (leaf form.Identifier (codes "string") ∷ [])
    ∷ plain form.DeclarativePart
    (plain form.ConstantDeclaration
    (plain form.IdentifierList (node form.Identifier (Some 540) None 0 (codes "image") [] ∷ [])
    ∷ plain form.SubtypeIndication
    (node form.SelectedName (Some STRING) None 0 [] (leaf form.Identifier (codes "string") ∷ [])
    ∷ plain form.IndexConstraint
    (of form.Ascending INTEGER (node form.Number None (Some INTEGER) 0 (codes "1") [] ∷ node form.Number None (Some INTEGER) 0 (codes "3") [] ∷ []) ∷ []) ∷ [])
    ∷ of form.Name STRING
    (node form.Identifier (Some STD_ULOGIC) None 0 (codes "std_ulogic") [] ∷ plain form.Attribute (leaf form.Identifier (codes "image") ∷ [])
    ∷ of form.Arguments STRING (of form.Name STD_ULOGIC (node form.Identifier (Some 475) (Some STD_ULOGIC) 0 (codes "a") [] ∷ []) ∷ []) ∷ []) ∷ []) ∷ [])
    ∷ plain form.Statements
    (plain form.ReturnStatement
    (of form.Aggregate STRING
    (plain form.Association
    (plain form.AssociationChoices (node form.Number None (Some INTEGER) 0 (codes "1") [] ∷ [])
    ∷ of form.Name CHARACTER
    (node form.Identifier (Some 540) (Some STRING) 0 (codes "image") []
    ∷ of form.Arguments CHARACTER (node form.Number None (Some INTEGER) 0 (codes "2") [] ∷ []) ∷ []) ∷ []) ∷ []) ∷ []) ∷ [])
    ∷ plain form.FunctionClosing (absent ∷ absent ∷ []) ∷ [])

abbrev pub vd_strv : Forest Resolved
vd_strv =
    node form.FunctionBody (Some 478) None 0 []
    (absent ∷ node form.Identifier (Some 478) None 0 (codes "vd_strv") [] ∷ absent ∷ absent
    ∷ plain form.ParameterList
    (plain form.ParameterDeclaration
    (absent ∷ plain form.IdentifierList (node form.Identifier (Some 477) None 0 (codes "a") [] ∷ []) ∷ absent
    ∷ plain form.SubtypeIndication
    (node form.SelectedName (Some STD_ULOGIC_VECTOR) None 0 [] (leaf form.Identifier (codes "std_ulogic_vector") ∷ []) ∷ absent ∷ []) ∷ []) ∷ [])
    ∷ node form.SelectedName (Some STRING) None 0 [] (leaf form.Identifier (codes "string") ∷ [])
    ∷ plain form.DeclarativePart
    (plain form.ConstantDeclaration
    (plain form.IdentifierList (node form.Identifier (Some 541) None 0 (codes "bounds") [] ∷ [])
    ∷ plain form.SubtypeIndication
    (node form.SelectedName (Some STD_ULOGIC_VECTOR) None 0 [] (leaf form.Identifier (codes "std_ulogic_vector") ∷ []) ∷ absent ∷ [])
    ∷ node form.Not (Some 372) (Some STD_ULOGIC_VECTOR) 0 []
    (of form.Name STD_ULOGIC_VECTOR (node form.Identifier (Some 477) (Some STD_ULOGIC_VECTOR) 0 (codes "a") [] ∷ []) ∷ []) ∷ [])
    ∷ plain form.ConstantDeclaration
    (plain form.IdentifierList (node form.Identifier (Some 542) None 0 (codes "elements") [] ∷ [])
    ∷ plain form.SubtypeIndication
    (node form.SelectedName (Some STD_ULOGIC_VECTOR) None 0 [] (leaf form.Identifier (codes "std_ulogic_vector") ∷ [])
    ∷ plain form.IndexConstraint
    (of form.Name INTEGER (node form.Identifier (Some 541) (Some STD_ULOGIC_VECTOR) 0 (codes "bounds") [] ∷ of form.RangeAttribute INTEGER [] ∷ []) ∷ []) ∷ [])
    ∷ of form.Name STD_ULOGIC_VECTOR (node form.Identifier (Some 477) (Some STD_ULOGIC_VECTOR) 0 (codes "a") [] ∷ []) ∷ [])
    ∷ plain form.VariableDeclaration
    (plain form.IdentifierList (node form.Identifier (Some 543) None 0 (codes "result") [] ∷ [])
    ∷ plain form.SubtypeIndication
    (node form.SelectedName (Some STRING) None 0 [] (leaf form.Identifier (codes "string") ∷ [])
    ∷ plain form.IndexConstraint
    (of form.Name INTEGER (node form.Identifier (Some 541) (Some STD_ULOGIC_VECTOR) 0 (codes "bounds") [] ∷ of form.RangeAttribute INTEGER [] ∷ []) ∷ []) ∷ [])
    ∷ absent ∷ []) ∷ [])
    ∷ plain form.Statements
    (node form.ForLoop (Some 544) None 0 []
    (node form.Identifier (Some 544) None 0 (codes "i") []
    ∷ of form.Name INTEGER (node form.Identifier (Some 541) (Some STD_ULOGIC_VECTOR) 0 (codes "bounds") [] ∷ of form.RangeAttribute INTEGER [] ∷ [])
    ∷ plain form.Statements
    (plain form.VariableAssignment
    (of form.Name CHARACTER
    (node form.Identifier (Some 543) (Some STRING) 0 (codes "result") []
    ∷ of form.Arguments CHARACTER (of form.Name INTEGER (node form.Identifier (Some 544) (Some INTEGER) 0 (codes "i") [] ∷ []) ∷ []) ∷ [])
    ∷ of form.Name CHARACTER
    (node form.Identifier (Some 476) None 0 (codes "vd_str") []
    ∷ node form.Arguments (Some 476) (Some STRING) 0 []
    (of form.Name STD_ULOGIC
    (node form.Identifier (Some 542) (Some STD_ULOGIC_VECTOR) 0 (codes "elements") []
    ∷ of form.Arguments STD_ULOGIC (of form.Name INTEGER (node form.Identifier (Some 544) (Some INTEGER) 0 (codes "i") [] ∷ []) ∷ []) ∷ []) ∷ [])
    ∷ of form.Arguments CHARACTER (node form.Number None (Some INTEGER) 0 (codes "1") [] ∷ []) ∷ []) ∷ []) ∷ [])
    ∷ absent ∷ [])
    ∷ plain form.ReturnStatement (of form.Name STRING (node form.Identifier (Some 543) (Some STRING) 0 (codes "result") [] ∷ []) ∷ []) ∷ [])
    ∷ plain form.FunctionClosing (absent ∷ absent ∷ []) ∷ [])
