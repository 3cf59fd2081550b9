-- Bodies of functions of the support package. Written by tools/resolved-trees from examples/support/vdown_support.vhd, which is of revision 1993.
use Rattle.std.specs.Prelude.{[], ◌∷◌, Some, None, codes}
use Rattle.vd_forest.specs.Forest.{Forest}
use Rattle.vd_forms.specs.declared.form.Form.TheVariants as form
use Rattle.vd_resolved.specs.declared.node.Resolved.{Resolved}
use Rattle.vd_predefined.specs.declared.numbers.TheConstants.{BIT, INTEGER, BIT_VECTOR}
use Rattle.vd_meaning_facts.specs.Trees.{node, plain, absent, of, leaf}

abbrev pub vd_band_vs : Forest Resolved
vd_band_vs =
    node form.FunctionBody (Some 447) None 0 []
    (absent ∷ node form.Identifier (Some 447) None 0 (codes "vd_band_vs") [] ∷ absent ∷ absent
    ∷ plain form.ParameterList
    (plain form.ParameterDeclaration
    (absent ∷ plain form.IdentifierList (node form.Identifier (Some 445) None 0 (codes "l") [] ∷ []) ∷ absent
    ∷ plain form.SubtypeIndication (node form.SelectedName (Some BIT_VECTOR) None 0 [] (leaf form.Identifier (codes "bit_vector") ∷ []) ∷ absent ∷ []) ∷ [])
    ∷ plain form.ParameterDeclaration
    (absent ∷ plain form.IdentifierList (node form.Identifier (Some 446) None 0 (codes "r") [] ∷ []) ∷ absent
    ∷ plain form.SubtypeIndication (node form.SelectedName (Some BIT) None 0 [] (leaf form.Identifier (codes "bit") ∷ []) ∷ absent ∷ []) ∷ []) ∷ [])
    ∷ node form.SelectedName (Some BIT_VECTOR) None 0 [] (leaf form.Identifier (codes "bit_vector") ∷ [])
    ∷ plain form.DeclarativePart
    (plain form.ConstantDeclaration
    (plain form.IdentifierList (node form.Identifier (Some 519) None 0 (codes "elements") [] ∷ [])
    ∷ plain form.SubtypeIndication (node form.SelectedName (Some BIT_VECTOR) None 0 [] (leaf form.Identifier (codes "bit_vector") ∷ []) ∷ absent ∷ [])
    ∷ node form.Concatenate (Some 307) (Some BIT_VECTOR) 0 []
    (of form.Name BIT_VECTOR (node form.Identifier (Some 445) (Some BIT_VECTOR) 0 (codes "l") [] ∷ []) ∷ of form.Quoted BIT_VECTOR [] ∷ []) ∷ [])
    ∷ plain form.ConstantDeclaration
    (plain form.IdentifierList (node form.Identifier (Some 520) None 0 (codes "other") [] ∷ [])
    ∷ plain form.SubtypeIndication
    (node form.SelectedName (Some BIT_VECTOR) None 0 [] (leaf form.Identifier (codes "bit_vector") ∷ [])
    ∷ plain form.IndexConstraint
    (of form.Name INTEGER (node form.Identifier (Some 519) (Some BIT_VECTOR) 0 (codes "elements") [] ∷ of form.RangeAttribute INTEGER [] ∷ []) ∷ []) ∷ [])
    ∷ of form.Aggregate BIT_VECTOR
    (plain form.OthersAssociation (of form.Name BIT (node form.Identifier (Some 446) (Some BIT) 0 (codes "r") [] ∷ []) ∷ []) ∷ []) ∷ []) ∷ [])
    ∷ plain form.Statements
    (plain form.ReturnStatement
    (node form.And (Some 294) (Some BIT_VECTOR) 0 []
    (of form.Name BIT_VECTOR (node form.Identifier (Some 445) (Some BIT_VECTOR) 0 (codes "l") [] ∷ [])
    ∷ of form.Name BIT_VECTOR (node form.Identifier (Some 520) (Some BIT_VECTOR) 0 (codes "other") [] ∷ []) ∷ []) ∷ []) ∷ [])
    ∷ plain form.FunctionClosing (absent ∷ absent ∷ []) ∷ [])

abbrev pub vd_bor_vs : Forest Resolved
vd_bor_vs =
    node form.FunctionBody (Some 450) None 0 []
    (absent ∷ node form.Identifier (Some 450) None 0 (codes "vd_bor_vs") [] ∷ absent ∷ absent
    ∷ plain form.ParameterList
    (plain form.ParameterDeclaration
    (absent ∷ plain form.IdentifierList (node form.Identifier (Some 448) None 0 (codes "l") [] ∷ []) ∷ absent
    ∷ plain form.SubtypeIndication (node form.SelectedName (Some BIT_VECTOR) None 0 [] (leaf form.Identifier (codes "bit_vector") ∷ []) ∷ absent ∷ []) ∷ [])
    ∷ plain form.ParameterDeclaration
    (absent ∷ plain form.IdentifierList (node form.Identifier (Some 449) None 0 (codes "r") [] ∷ []) ∷ absent
    ∷ plain form.SubtypeIndication (node form.SelectedName (Some BIT) None 0 [] (leaf form.Identifier (codes "bit") ∷ []) ∷ absent ∷ []) ∷ []) ∷ [])
    ∷ node form.SelectedName (Some BIT_VECTOR) None 0 [] (leaf form.Identifier (codes "bit_vector") ∷ [])
    ∷ plain form.DeclarativePart
    (plain form.ConstantDeclaration
    (plain form.IdentifierList (node form.Identifier (Some 521) None 0 (codes "elements") [] ∷ [])
    ∷ plain form.SubtypeIndication (node form.SelectedName (Some BIT_VECTOR) None 0 [] (leaf form.Identifier (codes "bit_vector") ∷ []) ∷ absent ∷ [])
    ∷ node form.Concatenate (Some 307) (Some BIT_VECTOR) 0 []
    (of form.Name BIT_VECTOR (node form.Identifier (Some 448) (Some BIT_VECTOR) 0 (codes "l") [] ∷ []) ∷ of form.Quoted BIT_VECTOR [] ∷ []) ∷ [])
    ∷ plain form.ConstantDeclaration
    (plain form.IdentifierList (node form.Identifier (Some 522) None 0 (codes "other") [] ∷ [])
    ∷ plain form.SubtypeIndication
    (node form.SelectedName (Some BIT_VECTOR) None 0 [] (leaf form.Identifier (codes "bit_vector") ∷ [])
    ∷ plain form.IndexConstraint
    (of form.Name INTEGER (node form.Identifier (Some 521) (Some BIT_VECTOR) 0 (codes "elements") [] ∷ of form.RangeAttribute INTEGER [] ∷ []) ∷ []) ∷ [])
    ∷ of form.Aggregate BIT_VECTOR
    (plain form.OthersAssociation (of form.Name BIT (node form.Identifier (Some 449) (Some BIT) 0 (codes "r") [] ∷ []) ∷ []) ∷ []) ∷ []) ∷ [])
    ∷ plain form.Statements
    (plain form.ReturnStatement
    (node form.Or (Some 295) (Some BIT_VECTOR) 0 []
    (of form.Name BIT_VECTOR (node form.Identifier (Some 448) (Some BIT_VECTOR) 0 (codes "l") [] ∷ [])
    ∷ of form.Name BIT_VECTOR (node form.Identifier (Some 522) (Some BIT_VECTOR) 0 (codes "other") [] ∷ []) ∷ []) ∷ []) ∷ [])
    ∷ plain form.FunctionClosing (absent ∷ absent ∷ []) ∷ [])

abbrev pub vd_bxor_vs : Forest Resolved
vd_bxor_vs =
    node form.FunctionBody (Some 453) None 0 []
    (absent ∷ node form.Identifier (Some 453) None 0 (codes "vd_bxor_vs") [] ∷ absent ∷ absent
    ∷ plain form.ParameterList
    (plain form.ParameterDeclaration
    (absent ∷ plain form.IdentifierList (node form.Identifier (Some 451) None 0 (codes "l") [] ∷ []) ∷ absent
    ∷ plain form.SubtypeIndication (node form.SelectedName (Some BIT_VECTOR) None 0 [] (leaf form.Identifier (codes "bit_vector") ∷ []) ∷ absent ∷ []) ∷ [])
    ∷ plain form.ParameterDeclaration
    (absent ∷ plain form.IdentifierList (node form.Identifier (Some 452) None 0 (codes "r") [] ∷ []) ∷ absent
    ∷ plain form.SubtypeIndication (node form.SelectedName (Some BIT) None 0 [] (leaf form.Identifier (codes "bit") ∷ []) ∷ absent ∷ []) ∷ []) ∷ [])
    ∷ node form.SelectedName (Some BIT_VECTOR) None 0 [] (leaf form.Identifier (codes "bit_vector") ∷ [])
    ∷ plain form.DeclarativePart
    (plain form.ConstantDeclaration
    (plain form.IdentifierList (node form.Identifier (Some 523) None 0 (codes "elements") [] ∷ [])
    ∷ plain form.SubtypeIndication (node form.SelectedName (Some BIT_VECTOR) None 0 [] (leaf form.Identifier (codes "bit_vector") ∷ []) ∷ absent ∷ [])
    ∷ node form.Concatenate (Some 307) (Some BIT_VECTOR) 0 []
    (of form.Name BIT_VECTOR (node form.Identifier (Some 451) (Some BIT_VECTOR) 0 (codes "l") [] ∷ []) ∷ of form.Quoted BIT_VECTOR [] ∷ []) ∷ [])
    ∷ plain form.ConstantDeclaration
    (plain form.IdentifierList (node form.Identifier (Some 524) None 0 (codes "other") [] ∷ [])
    ∷ plain form.SubtypeIndication
    (node form.SelectedName (Some BIT_VECTOR) None 0 [] (leaf form.Identifier (codes "bit_vector") ∷ [])
    ∷ plain form.IndexConstraint
    (of form.Name INTEGER (node form.Identifier (Some 523) (Some BIT_VECTOR) 0 (codes "elements") [] ∷ of form.RangeAttribute INTEGER [] ∷ []) ∷ []) ∷ [])
    ∷ of form.Aggregate BIT_VECTOR
    (plain form.OthersAssociation (of form.Name BIT (node form.Identifier (Some 452) (Some BIT) 0 (codes "r") [] ∷ []) ∷ []) ∷ []) ∷ []) ∷ [])
    ∷ plain form.Statements
    (plain form.ReturnStatement
    (node form.Xor (Some 298) (Some BIT_VECTOR) 0 []
    (of form.Name BIT_VECTOR (node form.Identifier (Some 451) (Some BIT_VECTOR) 0 (codes "l") [] ∷ [])
    ∷ of form.Name BIT_VECTOR (node form.Identifier (Some 524) (Some BIT_VECTOR) 0 (codes "other") [] ∷ []) ∷ []) ∷ []) ∷ [])
    ∷ plain form.FunctionClosing (absent ∷ absent ∷ []) ∷ [])

abbrev pub vd_band_sv : Forest Resolved
vd_band_sv =
    node form.FunctionBody (Some 456) None 0 []
    (absent ∷ node form.Identifier (Some 456) None 0 (codes "vd_band_sv") [] ∷ absent ∷ absent
    ∷ plain form.ParameterList
    (plain form.ParameterDeclaration
    (absent ∷ plain form.IdentifierList (node form.Identifier (Some 454) None 0 (codes "l") [] ∷ []) ∷ absent
    ∷ plain form.SubtypeIndication (node form.SelectedName (Some BIT) None 0 [] (leaf form.Identifier (codes "bit") ∷ []) ∷ absent ∷ []) ∷ [])
    ∷ plain form.ParameterDeclaration
    (absent ∷ plain form.IdentifierList (node form.Identifier (Some 455) None 0 (codes "r") [] ∷ []) ∷ absent
    ∷ plain form.SubtypeIndication (node form.SelectedName (Some BIT_VECTOR) None 0 [] (leaf form.Identifier (codes "bit_vector") ∷ []) ∷ absent ∷ []) ∷ []) ∷ [])
    ∷ node form.SelectedName (Some BIT_VECTOR) None 0 [] (leaf form.Identifier (codes "bit_vector") ∷ [])
    ∷ plain form.DeclarativePart
    (plain form.ConstantDeclaration
    (plain form.IdentifierList (node form.Identifier (Some 525) None 0 (codes "elements") [] ∷ [])
    ∷ plain form.SubtypeIndication (node form.SelectedName (Some BIT_VECTOR) None 0 [] (leaf form.Identifier (codes "bit_vector") ∷ []) ∷ absent ∷ [])
    ∷ node form.Concatenate (Some 307) (Some BIT_VECTOR) 0 []
    (of form.Name BIT_VECTOR (node form.Identifier (Some 455) (Some BIT_VECTOR) 0 (codes "r") [] ∷ []) ∷ of form.Quoted BIT_VECTOR [] ∷ []) ∷ [])
    ∷ plain form.ConstantDeclaration
    (plain form.IdentifierList (node form.Identifier (Some 526) None 0 (codes "other") [] ∷ [])
    ∷ plain form.SubtypeIndication
    (node form.SelectedName (Some BIT_VECTOR) None 0 [] (leaf form.Identifier (codes "bit_vector") ∷ [])
    ∷ plain form.IndexConstraint
    (of form.Name INTEGER (node form.Identifier (Some 525) (Some BIT_VECTOR) 0 (codes "elements") [] ∷ of form.RangeAttribute INTEGER [] ∷ []) ∷ []) ∷ [])
    ∷ of form.Aggregate BIT_VECTOR
    (plain form.OthersAssociation (of form.Name BIT (node form.Identifier (Some 454) (Some BIT) 0 (codes "l") [] ∷ []) ∷ []) ∷ []) ∷ []) ∷ [])
    ∷ plain form.Statements
    (plain form.ReturnStatement
    (node form.And (Some 294) (Some BIT_VECTOR) 0 []
    (of form.Name BIT_VECTOR (node form.Identifier (Some 455) (Some BIT_VECTOR) 0 (codes "r") [] ∷ [])
    ∷ of form.Name BIT_VECTOR (node form.Identifier (Some 526) (Some BIT_VECTOR) 0 (codes "other") [] ∷ []) ∷ []) ∷ []) ∷ [])
    ∷ plain form.FunctionClosing (absent ∷ absent ∷ []) ∷ [])

abbrev pub vd_bor_sv : Forest Resolved
vd_bor_sv =
    node form.FunctionBody (Some 459) None 0 []
    (absent ∷ node form.Identifier (Some 459) None 0 (codes "vd_bor_sv") [] ∷ absent ∷ absent
    ∷ plain form.ParameterList
    (plain form.ParameterDeclaration
    (absent ∷ plain form.IdentifierList (node form.Identifier (Some 457) None 0 (codes "l") [] ∷ []) ∷ absent
    ∷ plain form.SubtypeIndication (node form.SelectedName (Some BIT) None 0 [] (leaf form.Identifier (codes "bit") ∷ []) ∷ absent ∷ []) ∷ [])
    ∷ plain form.ParameterDeclaration
    (absent ∷ plain form.IdentifierList (node form.Identifier (Some 458) None 0 (codes "r") [] ∷ []) ∷ absent
    ∷ plain form.SubtypeIndication (node form.SelectedName (Some BIT_VECTOR) None 0 [] (leaf form.Identifier (codes "bit_vector") ∷ []) ∷ absent ∷ []) ∷ []) ∷ [])
    ∷ node form.SelectedName (Some BIT_VECTOR) None 0 [] (leaf form.Identifier (codes "bit_vector") ∷ [])
    ∷ plain form.DeclarativePart
    (plain form.ConstantDeclaration
    (plain form.IdentifierList (node form.Identifier (Some 527) None 0 (codes "elements") [] ∷ [])
    ∷ plain form.SubtypeIndication (node form.SelectedName (Some BIT_VECTOR) None 0 [] (leaf form.Identifier (codes "bit_vector") ∷ []) ∷ absent ∷ [])
    ∷ node form.Concatenate (Some 307) (Some BIT_VECTOR) 0 []
    (of form.Name BIT_VECTOR (node form.Identifier (Some 458) (Some BIT_VECTOR) 0 (codes "r") [] ∷ []) ∷ of form.Quoted BIT_VECTOR [] ∷ []) ∷ [])
    ∷ plain form.ConstantDeclaration
    (plain form.IdentifierList (node form.Identifier (Some 528) None 0 (codes "other") [] ∷ [])
    ∷ plain form.SubtypeIndication
    (node form.SelectedName (Some BIT_VECTOR) None 0 [] (leaf form.Identifier (codes "bit_vector") ∷ [])
    ∷ plain form.IndexConstraint
    (of form.Name INTEGER (node form.Identifier (Some 527) (Some BIT_VECTOR) 0 (codes "elements") [] ∷ of form.RangeAttribute INTEGER [] ∷ []) ∷ []) ∷ [])
    ∷ of form.Aggregate BIT_VECTOR
    (plain form.OthersAssociation (of form.Name BIT (node form.Identifier (Some 457) (Some BIT) 0 (codes "l") [] ∷ []) ∷ []) ∷ []) ∷ []) ∷ [])
    ∷ plain form.Statements
    (plain form.ReturnStatement
    (node form.Or (Some 295) (Some BIT_VECTOR) 0 []
    (of form.Name BIT_VECTOR (node form.Identifier (Some 458) (Some BIT_VECTOR) 0 (codes "r") [] ∷ [])
    ∷ of form.Name BIT_VECTOR (node form.Identifier (Some 528) (Some BIT_VECTOR) 0 (codes "other") [] ∷ []) ∷ []) ∷ []) ∷ [])
    ∷ plain form.FunctionClosing (absent ∷ absent ∷ []) ∷ [])

abbrev pub vd_bxor_sv : Forest Resolved
vd_bxor_sv =
    node form.FunctionBody (Some 462) None 0 []
    (absent ∷ node form.Identifier (Some 462) None 0 (codes "vd_bxor_sv") [] ∷ absent ∷ absent
    ∷ plain form.ParameterList
    (plain form.ParameterDeclaration
    (absent ∷ plain form.IdentifierList (node form.Identifier (Some 460) None 0 (codes "l") [] ∷ []) ∷ absent
    ∷ plain form.SubtypeIndication (node form.SelectedName (Some BIT) None 0 [] (leaf form.Identifier (codes "bit") ∷ []) ∷ absent ∷ []) ∷ [])
    ∷ plain form.ParameterDeclaration
    (absent ∷ plain form.IdentifierList (node form.Identifier (Some 461) None 0 (codes "r") [] ∷ []) ∷ absent
    ∷ plain form.SubtypeIndication (node form.SelectedName (Some BIT_VECTOR) None 0 [] (leaf form.Identifier (codes "bit_vector") ∷ []) ∷ absent ∷ []) ∷ []) ∷ [])
    ∷ node form.SelectedName (Some BIT_VECTOR) None 0 [] (leaf form.Identifier (codes "bit_vector") ∷ [])
    ∷ plain form.DeclarativePart
    (plain form.ConstantDeclaration
    (plain form.IdentifierList (node form.Identifier (Some 529) None 0 (codes "elements") [] ∷ [])
    ∷ plain form.SubtypeIndication (node form.SelectedName (Some BIT_VECTOR) None 0 [] (leaf form.Identifier (codes "bit_vector") ∷ []) ∷ absent ∷ [])
    ∷ node form.Concatenate (Some 307) (Some BIT_VECTOR) 0 []
    (of form.Name BIT_VECTOR (node form.Identifier (Some 461) (Some BIT_VECTOR) 0 (codes "r") [] ∷ []) ∷ of form.Quoted BIT_VECTOR [] ∷ []) ∷ [])
    ∷ plain form.ConstantDeclaration
    (plain form.IdentifierList (node form.Identifier (Some 530) None 0 (codes "other") [] ∷ [])
    ∷ plain form.SubtypeIndication
    (node form.SelectedName (Some BIT_VECTOR) None 0 [] (leaf form.Identifier (codes "bit_vector") ∷ [])
    ∷ plain form.IndexConstraint
    (of form.Name INTEGER (node form.Identifier (Some 529) (Some BIT_VECTOR) 0 (codes "elements") [] ∷ of form.RangeAttribute INTEGER [] ∷ []) ∷ []) ∷ [])
    ∷ of form.Aggregate BIT_VECTOR
    (plain form.OthersAssociation (of form.Name BIT (node form.Identifier (Some 460) (Some BIT) 0 (codes "l") [] ∷ []) ∷ []) ∷ []) ∷ []) ∷ [])
    ∷ plain form.Statements
    (plain form.ReturnStatement
    (node form.Xor (Some 298) (Some BIT_VECTOR) 0 []
    (of form.Name BIT_VECTOR (node form.Identifier (Some 461) (Some BIT_VECTOR) 0 (codes "r") [] ∷ [])
    ∷ of form.Name BIT_VECTOR (node form.Identifier (Some 530) (Some BIT_VECTOR) 0 (codes "other") [] ∷ []) ∷ []) ∷ []) ∷ [])
    ∷ plain form.FunctionClosing (absent ∷ absent ∷ []) ∷ [])
