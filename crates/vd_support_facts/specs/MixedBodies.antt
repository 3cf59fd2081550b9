-- Bodies of functions of the support package. Written by tools/resolved-trees from examples/support/vdown_support.vhd, which is of revision 1993.
use Rattle.std.specs.Prelude.{[], ◌∷◌, Some, None, codes}
use Rattle.vd_forest.specs.Forest.{Forest}
use Rattle.vd_forms.specs.declared.form.Form.TheVariants as form
use Rattle.vd_resolved.specs.declared.node.Resolved.{Resolved}
use Rattle.vd_predefined.specs.declared.numbers.TheConstants.{INTEGER, STD_ULOGIC, STD_ULOGIC_VECTOR}
use Rattle.vd_meaning_facts.specs.Trees.{node, plain, absent, of, leaf}

abbrev pub vd_and_vs : Forest Resolved
vd_and_vs =
    node form.FunctionBody (Some 429) None 0 []
    (absent ∷ node form.Identifier (Some 429) None 0 (codes "vd_and_vs") [] ∷ absent ∷ absent
    ∷ plain form.ParameterList
    (plain form.ParameterDeclaration
    (absent ∷ plain form.IdentifierList (node form.Identifier (Some 427) None 0 (codes "l") [] ∷ []) ∷ absent
    ∷ plain form.SubtypeIndication
    (node form.SelectedName (Some STD_ULOGIC_VECTOR) None 0 [] (leaf form.Identifier (codes "std_ulogic_vector") ∷ []) ∷ absent ∷ []) ∷ [])
    ∷ plain form.ParameterDeclaration
    (absent ∷ plain form.IdentifierList (node form.Identifier (Some 428) None 0 (codes "r") [] ∷ []) ∷ absent
    ∷ plain form.SubtypeIndication (node form.SelectedName (Some STD_ULOGIC) None 0 [] (leaf form.Identifier (codes "std_ulogic") ∷ []) ∷ absent ∷ []) ∷ []) ∷ [])
    ∷ node form.SelectedName (Some STD_ULOGIC_VECTOR) None 0 [] (leaf form.Identifier (codes "std_ulogic_vector") ∷ [])
    ∷ plain form.DeclarativePart
    (plain form.ConstantDeclaration
    (plain form.IdentifierList (node form.Identifier (Some 507) None 0 (codes "elements") [] ∷ [])
    ∷ plain form.SubtypeIndication
    (node form.SelectedName (Some STD_ULOGIC_VECTOR) None 0 [] (leaf form.Identifier (codes "std_ulogic_vector") ∷ []) ∷ absent ∷ [])
    ∷ node form.Concatenate (Some 333) (Some STD_ULOGIC_VECTOR) 0 []
    (of form.Name STD_ULOGIC_VECTOR (node form.Identifier (Some 427) (Some STD_ULOGIC_VECTOR) 0 (codes "l") [] ∷ []) ∷ of form.Quoted STD_ULOGIC_VECTOR [] ∷ []) ∷ [])
    ∷ plain form.ConstantDeclaration
    (plain form.IdentifierList (node form.Identifier (Some 508) None 0 (codes "other") [] ∷ [])
    ∷ plain form.SubtypeIndication
    (node form.SelectedName (Some STD_ULOGIC_VECTOR) None 0 [] (leaf form.Identifier (codes "std_ulogic_vector") ∷ [])
    ∷ plain form.IndexConstraint
    (of form.Name INTEGER (node form.Identifier (Some 507) (Some STD_ULOGIC_VECTOR) 0 (codes "elements") [] ∷ of form.RangeAttribute INTEGER [] ∷ []) ∷ []) ∷ [])
    ∷ of form.Aggregate STD_ULOGIC_VECTOR
    (plain form.OthersAssociation (of form.Name STD_ULOGIC (node form.Identifier (Some 428) (Some STD_ULOGIC) 0 (codes "r") [] ∷ []) ∷ []) ∷ []) ∷ []) ∷ [])
    ∷ plain form.Statements
    (plain form.ReturnStatement
    (node form.And (Some 367) (Some STD_ULOGIC_VECTOR) 0 []
    (of form.Name STD_ULOGIC_VECTOR (node form.Identifier (Some 427) (Some STD_ULOGIC_VECTOR) 0 (codes "l") [] ∷ [])
    ∷ of form.Name STD_ULOGIC_VECTOR (node form.Identifier (Some 508) (Some STD_ULOGIC_VECTOR) 0 (codes "other") [] ∷ []) ∷ []) ∷ []) ∷ [])
    ∷ plain form.FunctionClosing (absent ∷ absent ∷ []) ∷ [])

abbrev pub vd_or_vs : Forest Resolved
vd_or_vs =
    node form.FunctionBody (Some 432) None 0 []
    (absent ∷ node form.Identifier (Some 432) None 0 (codes "vd_or_vs") [] ∷ absent ∷ absent
    ∷ plain form.ParameterList
    (plain form.ParameterDeclaration
    (absent ∷ plain form.IdentifierList (node form.Identifier (Some 430) None 0 (codes "l") [] ∷ []) ∷ absent
    ∷ plain form.SubtypeIndication
    (node form.SelectedName (Some STD_ULOGIC_VECTOR) None 0 [] (leaf form.Identifier (codes "std_ulogic_vector") ∷ []) ∷ absent ∷ []) ∷ [])
    ∷ plain form.ParameterDeclaration
    (absent ∷ plain form.IdentifierList (node form.Identifier (Some 431) None 0 (codes "r") [] ∷ []) ∷ absent
    ∷ plain form.SubtypeIndication (node form.SelectedName (Some STD_ULOGIC) None 0 [] (leaf form.Identifier (codes "std_ulogic") ∷ []) ∷ absent ∷ []) ∷ []) ∷ [])
    ∷ node form.SelectedName (Some STD_ULOGIC_VECTOR) None 0 [] (leaf form.Identifier (codes "std_ulogic_vector") ∷ [])
    ∷ plain form.DeclarativePart
    (plain form.ConstantDeclaration
    (plain form.IdentifierList (node form.Identifier (Some 509) None 0 (codes "elements") [] ∷ [])
    ∷ plain form.SubtypeIndication
    (node form.SelectedName (Some STD_ULOGIC_VECTOR) None 0 [] (leaf form.Identifier (codes "std_ulogic_vector") ∷ []) ∷ absent ∷ [])
    ∷ node form.Concatenate (Some 333) (Some STD_ULOGIC_VECTOR) 0 []
    (of form.Name STD_ULOGIC_VECTOR (node form.Identifier (Some 430) (Some STD_ULOGIC_VECTOR) 0 (codes "l") [] ∷ []) ∷ of form.Quoted STD_ULOGIC_VECTOR [] ∷ []) ∷ [])
    ∷ plain form.ConstantDeclaration
    (plain form.IdentifierList (node form.Identifier (Some 510) None 0 (codes "other") [] ∷ [])
    ∷ plain form.SubtypeIndication
    (node form.SelectedName (Some STD_ULOGIC_VECTOR) None 0 [] (leaf form.Identifier (codes "std_ulogic_vector") ∷ [])
    ∷ plain form.IndexConstraint
    (of form.Name INTEGER (node form.Identifier (Some 509) (Some STD_ULOGIC_VECTOR) 0 (codes "elements") [] ∷ of form.RangeAttribute INTEGER [] ∷ []) ∷ []) ∷ [])
    ∷ of form.Aggregate STD_ULOGIC_VECTOR
    (plain form.OthersAssociation (of form.Name STD_ULOGIC (node form.Identifier (Some 431) (Some STD_ULOGIC) 0 (codes "r") [] ∷ []) ∷ []) ∷ []) ∷ []) ∷ [])
    ∷ plain form.Statements
    (plain form.ReturnStatement
    (node form.Or (Some 369) (Some STD_ULOGIC_VECTOR) 0 []
    (of form.Name STD_ULOGIC_VECTOR (node form.Identifier (Some 430) (Some STD_ULOGIC_VECTOR) 0 (codes "l") [] ∷ [])
    ∷ of form.Name STD_ULOGIC_VECTOR (node form.Identifier (Some 510) (Some STD_ULOGIC_VECTOR) 0 (codes "other") [] ∷ []) ∷ []) ∷ []) ∷ [])
    ∷ plain form.FunctionClosing (absent ∷ absent ∷ []) ∷ [])

abbrev pub vd_xor_vs : Forest Resolved
vd_xor_vs =
    node form.FunctionBody (Some 435) None 0 []
    (absent ∷ node form.Identifier (Some 435) None 0 (codes "vd_xor_vs") [] ∷ absent ∷ absent
    ∷ plain form.ParameterList
    (plain form.ParameterDeclaration
    (absent ∷ plain form.IdentifierList (node form.Identifier (Some 433) None 0 (codes "l") [] ∷ []) ∷ absent
    ∷ plain form.SubtypeIndication
    (node form.SelectedName (Some STD_ULOGIC_VECTOR) None 0 [] (leaf form.Identifier (codes "std_ulogic_vector") ∷ []) ∷ absent ∷ []) ∷ [])
    ∷ plain form.ParameterDeclaration
    (absent ∷ plain form.IdentifierList (node form.Identifier (Some 434) None 0 (codes "r") [] ∷ []) ∷ absent
    ∷ plain form.SubtypeIndication (node form.SelectedName (Some STD_ULOGIC) None 0 [] (leaf form.Identifier (codes "std_ulogic") ∷ []) ∷ absent ∷ []) ∷ []) ∷ [])
    ∷ node form.SelectedName (Some STD_ULOGIC_VECTOR) None 0 [] (leaf form.Identifier (codes "std_ulogic_vector") ∷ [])
    ∷ plain form.DeclarativePart
    (plain form.ConstantDeclaration
    (plain form.IdentifierList (node form.Identifier (Some 511) None 0 (codes "elements") [] ∷ [])
    ∷ plain form.SubtypeIndication
    (node form.SelectedName (Some STD_ULOGIC_VECTOR) None 0 [] (leaf form.Identifier (codes "std_ulogic_vector") ∷ []) ∷ absent ∷ [])
    ∷ node form.Concatenate (Some 333) (Some STD_ULOGIC_VECTOR) 0 []
    (of form.Name STD_ULOGIC_VECTOR (node form.Identifier (Some 433) (Some STD_ULOGIC_VECTOR) 0 (codes "l") [] ∷ []) ∷ of form.Quoted STD_ULOGIC_VECTOR [] ∷ []) ∷ [])
    ∷ plain form.ConstantDeclaration
    (plain form.IdentifierList (node form.Identifier (Some 512) None 0 (codes "other") [] ∷ [])
    ∷ plain form.SubtypeIndication
    (node form.SelectedName (Some STD_ULOGIC_VECTOR) None 0 [] (leaf form.Identifier (codes "std_ulogic_vector") ∷ [])
    ∷ plain form.IndexConstraint
    (of form.Name INTEGER (node form.Identifier (Some 511) (Some STD_ULOGIC_VECTOR) 0 (codes "elements") [] ∷ of form.RangeAttribute INTEGER [] ∷ []) ∷ []) ∷ [])
    ∷ of form.Aggregate STD_ULOGIC_VECTOR
    (plain form.OthersAssociation (of form.Name STD_ULOGIC (node form.Identifier (Some 434) (Some STD_ULOGIC) 0 (codes "r") [] ∷ []) ∷ []) ∷ []) ∷ []) ∷ [])
    ∷ plain form.Statements
    (plain form.ReturnStatement
    (node form.Xor (Some 371) (Some STD_ULOGIC_VECTOR) 0 []
    (of form.Name STD_ULOGIC_VECTOR (node form.Identifier (Some 433) (Some STD_ULOGIC_VECTOR) 0 (codes "l") [] ∷ [])
    ∷ of form.Name STD_ULOGIC_VECTOR (node form.Identifier (Some 512) (Some STD_ULOGIC_VECTOR) 0 (codes "other") [] ∷ []) ∷ []) ∷ []) ∷ [])
    ∷ plain form.FunctionClosing (absent ∷ absent ∷ []) ∷ [])

abbrev pub vd_and_sv : Forest Resolved
vd_and_sv =
    node form.FunctionBody (Some 438) None 0 []
    (absent ∷ node form.Identifier (Some 438) None 0 (codes "vd_and_sv") [] ∷ absent ∷ absent
    ∷ plain form.ParameterList
    (plain form.ParameterDeclaration
    (absent ∷ plain form.IdentifierList (node form.Identifier (Some 436) None 0 (codes "l") [] ∷ []) ∷ absent
    ∷ plain form.SubtypeIndication (node form.SelectedName (Some STD_ULOGIC) None 0 [] (leaf form.Identifier (codes "std_ulogic") ∷ []) ∷ absent ∷ []) ∷ [])
    ∷ plain form.ParameterDeclaration
    (absent ∷ plain form.IdentifierList (node form.Identifier (Some 437) None 0 (codes "r") [] ∷ []) ∷ absent
    ∷ plain form.SubtypeIndication
    (node form.SelectedName (Some STD_ULOGIC_VECTOR) None 0 [] (leaf form.Identifier (codes "std_ulogic_vector") ∷ []) ∷ absent ∷ []) ∷ []) ∷ [])
    ∷ node form.SelectedName (Some STD_ULOGIC_VECTOR) None 0 [] (leaf form.Identifier (codes "std_ulogic_vector") ∷ [])
    ∷ plain form.DeclarativePart
    (plain form.ConstantDeclaration
    (plain form.IdentifierList (node form.Identifier (Some 513) None 0 (codes "elements") [] ∷ [])
    ∷ plain form.SubtypeIndication
    (node form.SelectedName (Some STD_ULOGIC_VECTOR) None 0 [] (leaf form.Identifier (codes "std_ulogic_vector") ∷ []) ∷ absent ∷ [])
    ∷ node form.Concatenate (Some 333) (Some STD_ULOGIC_VECTOR) 0 []
    (of form.Name STD_ULOGIC_VECTOR (node form.Identifier (Some 437) (Some STD_ULOGIC_VECTOR) 0 (codes "r") [] ∷ []) ∷ of form.Quoted STD_ULOGIC_VECTOR [] ∷ []) ∷ [])
    ∷ plain form.ConstantDeclaration
    (plain form.IdentifierList (node form.Identifier (Some 514) None 0 (codes "other") [] ∷ [])
    ∷ plain form.SubtypeIndication
    (node form.SelectedName (Some STD_ULOGIC_VECTOR) None 0 [] (leaf form.Identifier (codes "std_ulogic_vector") ∷ [])
    ∷ plain form.IndexConstraint
    (of form.Name INTEGER (node form.Identifier (Some 513) (Some STD_ULOGIC_VECTOR) 0 (codes "elements") [] ∷ of form.RangeAttribute INTEGER [] ∷ []) ∷ []) ∷ [])
    ∷ of form.Aggregate STD_ULOGIC_VECTOR
    (plain form.OthersAssociation (of form.Name STD_ULOGIC (node form.Identifier (Some 436) (Some STD_ULOGIC) 0 (codes "l") [] ∷ []) ∷ []) ∷ []) ∷ []) ∷ [])
    ∷ plain form.Statements
    (plain form.ReturnStatement
    (node form.And (Some 367) (Some STD_ULOGIC_VECTOR) 0 []
    (of form.Name STD_ULOGIC_VECTOR (node form.Identifier (Some 437) (Some STD_ULOGIC_VECTOR) 0 (codes "r") [] ∷ [])
    ∷ of form.Name STD_ULOGIC_VECTOR (node form.Identifier (Some 514) (Some STD_ULOGIC_VECTOR) 0 (codes "other") [] ∷ []) ∷ []) ∷ []) ∷ [])
    ∷ plain form.FunctionClosing (absent ∷ absent ∷ []) ∷ [])

abbrev pub vd_or_sv : Forest Resolved
vd_or_sv =
    node form.FunctionBody (Some 441) None 0 []
    (absent ∷ node form.Identifier (Some 441) None 0 (codes "vd_or_sv") [] ∷ absent ∷ absent
    ∷ plain form.ParameterList
    (plain form.ParameterDeclaration
    (absent ∷ plain form.IdentifierList (node form.Identifier (Some 439) None 0 (codes "l") [] ∷ []) ∷ absent
    ∷ plain form.SubtypeIndication (node form.SelectedName (Some STD_ULOGIC) None 0 [] (leaf form.Identifier (codes "std_ulogic") ∷ []) ∷ absent ∷ []) ∷ [])
    ∷ plain form.ParameterDeclaration
    (absent ∷ plain form.IdentifierList (node form.Identifier (Some 440) None 0 (codes "r") [] ∷ []) ∷ absent
    ∷ plain form.SubtypeIndication
    (node form.SelectedName (Some STD_ULOGIC_VECTOR) None 0 [] (leaf form.Identifier (codes "std_ulogic_vector") ∷ []) ∷ absent ∷ []) ∷ []) ∷ [])
    ∷ node form.SelectedName (Some STD_ULOGIC_VECTOR) None 0 [] (leaf form.Identifier (codes "std_ulogic_vector") ∷ [])
    ∷ plain form.DeclarativePart
    (plain form.ConstantDeclaration
    (plain form.IdentifierList (node form.Identifier (Some 515) None 0 (codes "elements") [] ∷ [])
    ∷ plain form.SubtypeIndication
    (node form.SelectedName (Some STD_ULOGIC_VECTOR) None 0 [] (leaf form.Identifier (codes "std_ulogic_vector") ∷ []) ∷ absent ∷ [])
    ∷ node form.Concatenate (Some 333) (Some STD_ULOGIC_VECTOR) 0 []
    (of form.Name STD_ULOGIC_VECTOR (node form.Identifier (Some 440) (Some STD_ULOGIC_VECTOR) 0 (codes "r") [] ∷ []) ∷ of form.Quoted STD_ULOGIC_VECTOR [] ∷ []) ∷ [])
    ∷ plain form.ConstantDeclaration
    (plain form.IdentifierList (node form.Identifier (Some 516) None 0 (codes "other") [] ∷ [])
    ∷ plain form.SubtypeIndication
    (node form.SelectedName (Some STD_ULOGIC_VECTOR) None 0 [] (leaf form.Identifier (codes "std_ulogic_vector") ∷ [])
    ∷ plain form.IndexConstraint
    (of form.Name INTEGER (node form.Identifier (Some 515) (Some STD_ULOGIC_VECTOR) 0 (codes "elements") [] ∷ of form.RangeAttribute INTEGER [] ∷ []) ∷ []) ∷ [])
    ∷ of form.Aggregate STD_ULOGIC_VECTOR
    (plain form.OthersAssociation (of form.Name STD_ULOGIC (node form.Identifier (Some 439) (Some STD_ULOGIC) 0 (codes "l") [] ∷ []) ∷ []) ∷ []) ∷ []) ∷ [])
    ∷ plain form.Statements
    (plain form.ReturnStatement
    (node form.Or (Some 369) (Some STD_ULOGIC_VECTOR) 0 []
    (of form.Name STD_ULOGIC_VECTOR (node form.Identifier (Some 440) (Some STD_ULOGIC_VECTOR) 0 (codes "r") [] ∷ [])
    ∷ of form.Name STD_ULOGIC_VECTOR (node form.Identifier (Some 516) (Some STD_ULOGIC_VECTOR) 0 (codes "other") [] ∷ []) ∷ []) ∷ []) ∷ [])
    ∷ plain form.FunctionClosing (absent ∷ absent ∷ []) ∷ [])

abbrev pub vd_xor_sv : Forest Resolved
vd_xor_sv =
    node form.FunctionBody (Some 444) None 0 []
    (absent ∷ node form.Identifier (Some 444) None 0 (codes "vd_xor_sv") [] ∷ absent ∷ absent
    ∷ plain form.ParameterList
    (plain form.ParameterDeclaration
    (absent ∷ plain form.IdentifierList (node form.Identifier (Some 442) None 0 (codes "l") [] ∷ []) ∷ absent
    ∷ plain form.SubtypeIndication (node form.SelectedName (Some STD_ULOGIC) None 0 [] (leaf form.Identifier (codes "std_ulogic") ∷ []) ∷ absent ∷ []) ∷ [])
    ∷ plain form.ParameterDeclaration
    (absent ∷ plain form.IdentifierList (node form.Identifier (Some 443) None 0 (codes "r") [] ∷ []) ∷ absent
    ∷ plain form.SubtypeIndication
    (node form.SelectedName (Some STD_ULOGIC_VECTOR) None 0 [] (leaf form.Identifier (codes "std_ulogic_vector") ∷ []) ∷ absent ∷ []) ∷ []) ∷ [])
    ∷ node form.SelectedName (Some STD_ULOGIC_VECTOR) None 0 [] (leaf form.Identifier (codes "std_ulogic_vector") ∷ [])
    ∷ plain form.DeclarativePart
    (plain form.ConstantDeclaration
    (plain form.IdentifierList (node form.Identifier (Some 517) None 0 (codes "elements") [] ∷ [])
    ∷ plain form.SubtypeIndication
    (node form.SelectedName (Some STD_ULOGIC_VECTOR) None 0 [] (leaf form.Identifier (codes "std_ulogic_vector") ∷ []) ∷ absent ∷ [])
    ∷ node form.Concatenate (Some 333) (Some STD_ULOGIC_VECTOR) 0 []
    (of form.Name STD_ULOGIC_VECTOR (node form.Identifier (Some 443) (Some STD_ULOGIC_VECTOR) 0 (codes "r") [] ∷ []) ∷ of form.Quoted STD_ULOGIC_VECTOR [] ∷ []) ∷ [])
    ∷ plain form.ConstantDeclaration
    (plain form.IdentifierList (node form.Identifier (Some 518) None 0 (codes "other") [] ∷ [])
    ∷ plain form.SubtypeIndication
    (node form.SelectedName (Some STD_ULOGIC_VECTOR) None 0 [] (leaf form.Identifier (codes "std_ulogic_vector") ∷ [])
    ∷ plain form.IndexConstraint
    (of form.Name INTEGER (node form.Identifier (Some 517) (Some STD_ULOGIC_VECTOR) 0 (codes "elements") [] ∷ of form.RangeAttribute INTEGER [] ∷ []) ∷ []) ∷ [])
    ∷ of form.Aggregate STD_ULOGIC_VECTOR
    (plain form.OthersAssociation (of form.Name STD_ULOGIC (node form.Identifier (Some 442) (Some STD_ULOGIC) 0 (codes "l") [] ∷ []) ∷ []) ∷ []) ∷ []) ∷ [])
    ∷ plain form.Statements
    (plain form.ReturnStatement
    (node form.Xor (Some 371) (Some STD_ULOGIC_VECTOR) 0 []
    (of form.Name STD_ULOGIC_VECTOR (node form.Identifier (Some 443) (Some STD_ULOGIC_VECTOR) 0 (codes "r") [] ∷ [])
    ∷ of form.Name STD_ULOGIC_VECTOR (node form.Identifier (Some 518) (Some STD_ULOGIC_VECTOR) 0 (codes "other") [] ∷ []) ∷ []) ∷ []) ∷ [])
    ∷ plain form.FunctionClosing (absent ∷ absent ∷ []) ∷ [])
