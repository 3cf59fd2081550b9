-- The subtype and the known length of an expression, by its form and by locally static bounds alone. (IEEE 1076, case statement: the length of an
-- expression of an array type; names; type conversions; qualified expressions.)
-- A name or a record element has the length of its locally static bounds, also an element or a slice; a call and a qualified expression that of their
-- constrained mark, a conversion that of its operand; a literal its own; a concatenation the sum, in which an element counts one; a logical
-- operator, `not` or a shift that of its array operand, the left one of two. All else has no known length.
use Rattle.std.specs.Prelude.{Bool, Err, List, None, Ok, Option, Some, [], false, if◌then◌else◌, is_some, length, not, suc, true, zero, ℕ, ◌&&◌, ◌+◌, ◌∷◌}
use Rattle.vd_composites.specs.Ranges.{length_of}
use Rattle.vd_composites.specs.Subtypes.{Arrays, Subtype}
use Rattle.vd_composites.specs.declared.ranges.Bounds.{Bounds}
use Rattle.vd_environments.specs.Environments.{Env, Indicated, Make, element_make, field_make, nothing_denoted, own_bounds, sliced_make}
use Rattle.vd_environments.specs.Got.{Got}
use Rattle.vd_forest.specs.Forest.{Forest, more, nothing}
use Rattle.vd_forms.specs.declared.form.Form.{Form}
use Rattle.vd_meaning.specs.Facets.{Meaning, nth}
use Rattle.vd_meaning.specs.Meanings.{meanings}
use Rattle.vd_meaning.specs.Names.{Attribute, OfType, attribute_named, element_of_subtype, field_subtype, number_or, sliced_subtype}
use Rattle.vd_meaning.specs.Operators.{operand_kind}
use Rattle.vd_meaning.specs.Tables.{ConstantRole, ElementRole, FunctionRole, MarkRole, Role, SignalRole, VariableRole, followed, is_predefined, role_of, same_type}
use Rattle.vd_meaning.specs.Kinds as Kinds
use Rattle.vd_resolved.specs.declared.node.Resolved.{Resolved}
use Rattle.vd_subtypes.specs.declared.operands.OperandKind.{OperandKind}
use Rattle.vd_subtypes.specs.declared.operands.OperandKind.TheVariants.{OneElement, WholeArray}
use Rattle.vd_value_rules.specs.Declaring.{result_in}
use Rattle.vd_value_rules.specs.Designs.{Design}
use Rattle.vd_value_rules.specs.Knowledge.{Known, at_mark, early_range, indicated_of, later_bounds}
use Rattle.vd_value_rules.specs.Standings.{is_one_element}
use Rattle.vd_forms.specs.declared.form.Form.TheVariants as form

pub record Shaped : Type 0 where
  -- by names, calls and qualified expressions a subtype, else the type
  pub indicated : Indicated
  pub length : Option ℕ
  -- behind an attribute of a type that has an argument
  pub is_callee : Bool

-- what a node stands for alone, and behind other pieces of a name
pub record Shaping : Type 0 where
  pub shaped : Shaped
  pub piece : Shaped → Shaped

abbrev pub shaped_as : Indicated → Option ℕ → Shaped
shaped_as i n = record { indicated = i; length = n; is_callee = false }

-- ---- bounds that are locally static

abbrev pub length_of_bounds : Option Bounds → Option ℕ
length_of_bounds None = None
length_of_bounds (Some b) = Some (length_of b)

abbrev pub length_of_subtype : Subtype → Option ℕ
length_of_subtype (Arrays index bounds element) = length_of_bounds bounds
length_of_subtype _ = None

abbrev pub static_length : Indicated → Option ℕ
static_length i = if (own_bounds i.make).is_local then length_of_subtype i.subtype else None

abbrev pub shaped_by : Indicated → Shaped
shaped_by i = shaped_as i (static_length i)

-- of the type of a node, with a length
abbrev pub of_type_of : Known → Resolved → Option ℕ → Shaped
of_type_of k n length = shaped_as (at_mark n.mark k.choosing) length

abbrev pub nothing_shaped : Shaped
nothing_shaped = shaped_as (indicated_of nothing_denoted) None

abbrev pub no_shaping : Shaping
no_shaping = record { shaped = nothing_shaped; piece = λ _. nothing_shaped }

abbrev pub shaping_as : Shaped → Shaping
shaping_as x = record { shaped = x; piece = λ _. x }

abbrev pub nth_shaping : ℕ → List Shaping → Shaping
nth_shaping n [] = no_shaping
nth_shaping zero (x ∷ xs) = x
nth_shaping (suc n) (x ∷ xs) = nth_shaping n xs

-- ---- names, piece by piece

abbrev pub first_shaped : Role → Design → Known → Resolved → Shaped
first_shaped ConstantRole d k n = shaped_by (at_mark n.declaration k.choosing)
first_shaped VariableRole d k n = shaped_by (at_mark n.declaration k.choosing)
first_shaped SignalRole d k n = shaped_by (at_mark n.declaration k.choosing)
first_shaped MarkRole d k n = shaped_by (at_mark n.declaration k.choosing)
first_shaped FunctionRole d k n = shaped_by (result_in d (followed d.table (number_or n.declaration)) k.choosing)
first_shaped _ d k n = of_type_of k n None

abbrev pub or_none : Got Subtype → Make → Indicated
or_none (Ok s) make = record { subtype = s; make = make }
or_none (Err halt) make = indicated_of nothing_denoted

abbrev pub field_shaped : ℕ → Shaped → Shaped
field_shaped n x = shaped_by (or_none (field_subtype n x.indicated.subtype) (field_make n x.indicated.make))

abbrev pub element_shaped : Shaped → Shaped
element_shaped x = shaped_by (or_none (element_of_subtype x.indicated.subtype) (element_make x.indicated.make))

abbrev pub slice_bounds : Got Bounds → Bounds
slice_bounds (Ok b) = b
slice_bounds (Err halt) = later_bounds

abbrev pub slice_shaped : Meaning → Env → Shaped → Shaped
slice_shaped m e x =
    shaped_by (or_none (sliced_subtype (slice_bounds (early_range m e)) x.indicated.subtype) (sliced_make (m.known e) x.indicated.make))

-- a conversion is of its type, and as long as its operand
abbrev pub conversion_shaped : Known → Resolved → Shaping → Shaped
conversion_shaped k n operand = of_type_of k n operand.shaped.length

abbrev pub indexed_shaped : Meaning → Env → Shaped → Shaped
indexed_shaped m e x = if is_some m.range then slice_shaped m e x else element_shaped x

abbrev pub brackets_shaped : Role → Design → Known → Resolved → Meaning → List Shaping → Shaped → Shaped
brackets_shaped FunctionRole d k n m xs p = shaped_by (result_in d (followed d.table (number_or n.declaration)) k.choosing)
brackets_shaped MarkRole d k n m xs p = conversion_shaped k n (nth_shaping 0 xs)
brackets_shaped _ d k n m xs p = indexed_shaped m k.env p

abbrev pub arguments_shaped : Design → Known → Resolved → Meaning → List Shaping → Shaped → Shaped
arguments_shaped d k n m xs p = if p.is_callee then of_type_of k n None else brackets_shaped (role_of d.table n.declaration) d k n m xs p

abbrev pub is_function_of_type : Attribute → Bool
is_function_of_type (OfType attribute) = true
is_function_of_type _ = false

abbrev pub attribute_shaped : Known → Resolved → List ℕ → Shaped
attribute_shaped k n name = record (of_type_of k n None) { is_callee = is_function_of_type (attribute_named name) }

abbrev pub selection_shaped : Role → Design → Known → Resolved → Shaped → Shaped
selection_shaped ElementRole d k n p = field_shaped n.position p
selection_shaped role d k n p = first_shaped role d k n

abbrev pub name_shaped : List Shaping → Shaped → Shaped
name_shaped [] p = p
name_shaped (x ∷ xs) p = name_shaped xs (x.piece p)

abbrev pub whole_name_shaped : List Shaping → Shaped
whole_name_shaped [] = nothing_shaped
whole_name_shaped (x ∷ xs) = name_shaped xs x.shaped

-- ---- operators

abbrev pub plus_length : Option ℕ → Option ℕ → Option ℕ
plus_length (Some m) (Some n) = Some (m + n)
plus_length _ _ = None

abbrev pub joined_length : OperandKind → Shaped → Option ℕ
joined_length WholeArray x = x.length
joined_length OneElement x = Some 1

abbrev pub operand_mark : List Meaning → ℕ → Option ℕ
operand_mark ms n = (nth n ms).mark

-- the array operand of a logical operator: the left one of two
abbrev pub array_operand : Resolved → List Meaning → List Shaping → Option ℕ
array_operand n ms xs =
    if same_type (operand_mark ms 0) n.mark then (nth_shaping 0 xs).shaped.length else (nth_shaping 1 xs).shaped.length

pub data LengthKind : Type 0 where
  ALiteral : LengthKind
  AName : LengthKind
  AFirstPiece : LengthKind
  ASelection : LengthKind
  SomeArguments : LengthKind
  AnAttribute : LengthKind
  AQualification : LengthKind
  Joining : LengthKind
  OfOperand : LengthKind
  SomeBrackets : LengthKind
  OtherLength : LengthKind

abbrev pub length_kind : Form → LengthKind
length_kind form.Quoted = ALiteral
length_kind form.Bits = ALiteral
length_kind form.Name = AName
length_kind form.OperatorName = AName
length_kind form.Identifier = AFirstPiece
length_kind form.Selection = ASelection
length_kind form.Arguments = SomeArguments
length_kind form.Attribute = AnAttribute
length_kind form.Qualification = AQualification
length_kind form.Concatenate = Joining
length_kind form.And = OfOperand
length_kind form.Or = OfOperand
length_kind form.Nand = OfOperand
length_kind form.Nor = OfOperand
length_kind form.Xor = OfOperand
length_kind form.Xnor = OfOperand
length_kind form.Not = OfOperand
length_kind form.ShiftLeftLogical = OfOperand
length_kind form.ShiftRightLogical = OfOperand
length_kind form.ShiftLeftArithmetic = OfOperand
length_kind form.ShiftRightArithmetic = OfOperand
length_kind form.RotateLeft = OfOperand
length_kind form.RotateRight = OfOperand
length_kind form.Aggregate = SomeBrackets
length_kind _ = OtherLength

abbrev pub shaping_of : LengthKind → Design → Known → Resolved → List ℕ → List Meaning → List Shaping → Shaping
shaping_of ALiteral d k n text ms xs = shaping_as (of_type_of k n (Some (length text)))
shaping_of AName d k n text ms xs = shaping_as (whole_name_shaped xs)
shaping_of AFirstPiece d k n text ms xs = shaping_as (first_shaped (role_of d.table n.declaration) d k n)
shaping_of ASelection d k n text ms xs = record no_shaping { piece = selection_shaped (role_of d.table n.declaration) d k n }
shaping_of SomeArguments d k n text ms xs = record no_shaping { piece = arguments_shaped d k n (nth 0 ms) xs }
shaping_of AnAttribute d k n text ms xs = shaping_as (attribute_shaped k n (nth 0 ms).text)
shaping_of AQualification d k n text ms xs = shaping_as (shaped_by (at_mark n.declaration k.choosing))
shaping_of Joining d k n text ms xs =
    shaping_as (of_type_of k n (plus_length (joined_length (operand_kind n.mark (operand_mark ms 0)) (nth_shaping 0 xs).shaped)
    (joined_length (operand_kind n.mark (operand_mark ms 1)) (nth_shaping 1 xs).shaped)))
shaping_of OfOperand d k n text ms xs = shaping_as (of_type_of k n (array_operand n ms xs))
shaping_of SomeBrackets d k n text ms xs = if is_one_element ms then nth_shaping 0 xs else shaping_as (of_type_of k n None)
shaping_of OtherLength d k n text ms xs = shaping_as (of_type_of k n None)

-- an operator that is written is a call
abbrev pub is_operator : Kinds.Kind → Bool
is_operator Kinds.Operator = true
is_operator _ = false

abbrev pub calls_written : Design → Resolved → Bool
calls_written d n =
    is_operator (Kinds.kind n.form) && (is_some n.declaration && not (is_predefined d.table (followed d.table (number_or n.declaration))))

abbrev pub shaping_at : Design → Known → Resolved → List ℕ → List Meaning → List Shaping → Shaping
shaping_at d k n text ms xs =
    if calls_written d n then shaping_as (shaped_by (result_in d (followed d.table (number_or n.declaration)) k.choosing))
    else shaping_of (length_kind n.form) d k n text ms xs

-- of the trees of a forest
abbrev pub shapings : Design → Known → Forest Resolved → List Shaping
shapings d k nothing = []
shapings d k (more n text place parts next) =
    shaping_at d k n text (meanings d.table parts) (shapings d k parts) ∷ shapings d k next

-- of the part with a number
abbrev pub shape_at : Design → Known → ℕ → Forest Resolved → Shaped
shape_at d k n parts = (nth_shaping n (shapings d k parts)).shaped
