-- Laws of heads of subtypes.
use Rattle.std.specs.Prelude.{◌≡◌, Option}
use Rattle.vd_values.specs.declared.scalar.Scalar.{Scalar}
use Rattle.vd_composites.specs.declared.ranges.Bounds.{Bounds}
use Rattle.vd_composites.specs.declared.scalars.ScalarSubtype.{ScalarSubtype}
use Rattle.vd_composites.specs.Composites.{Value, Items}
use Rattle.vd_composites.specs.Subtypes.{Subtype, Arrays, fit}
use Rattle.vd_composites.specs.Concatenations.{concatenation, positional}
use Rattle.vd_subtypes.specs.declared.operands.OperandKind.{OperandKind}
use Rattle.vd_subtypes.specs.Heads.{head_of, fit_head}
use Rattle.vd_subtypes.specs.Operands.{operand_of, concatenated}
use Rattle.vd_subtypes.specs.Positional.{positional_by}

-- To be made one of a subtype is to be made one of its head.
abbrev pub HeadsDecide : Type 0
HeadsDecide = (s : Subtype) (v : Value Scalar) → fit s v ≡ fit_head (head_of s) v

abbrev pub HeadsConcatenate : Type 0
HeadsConcatenate =
    (index : ScalarSubtype) (bounds : Option Bounds) (element : Subtype) (k m : OperandKind) (l r : Value Scalar) →
    concatenation (Arrays index bounds element) (operand_of k l) (operand_of m r) ≡ concatenated index (head_of element) k m l r

abbrev pub HeadsMakeArrays : Type 0
HeadsMakeArrays =
    (index : ScalarSubtype) (bounds : Option Bounds) (element : Subtype) (vs : Items Scalar) →
    positional (Arrays index bounds element) vs ≡ positional_by index (head_of element) vs
