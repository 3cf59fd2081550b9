-- What of a subtype decides whether a value can be made one of it, and what it becomes. Of an array that is the index subtype and the bounds, of a record the number of its fields.
use Rattle.std.specs.Prelude.{◌==◌, Option, Some, None, Ok, Err, if◌then◌else◌}
use Rattle.vd_values.specs.declared.scalar.Scalar.{Scalar}
use Rattle.vd_values.specs.declared.scalar.StopKind.TheVariants.{Range, Length}
use Rattle.vd_composites.specs.declared.ranges.Bounds.{Bounds}
use Rattle.vd_composites.specs.declared.scalars.ScalarSubtype.{ScalarSubtype}
use Rattle.vd_composites.specs.Stops.{OrStop}
use Rattle.vd_composites.specs.Ranges.{length_of}
use Rattle.vd_composites.specs.Scalars.{belongs}
use Rattle.vd_composites.specs.Composites.{Value, One, Array, count}
use Rattle.vd_composites.specs.Composites.{Fields as FieldsOf}
use Rattle.vd_composites.specs.Parts.{misshapen}
use Rattle.vd_composites.specs.Subtypes.{Subtype, Scalars, Arrays, Records, number_of, indexed}
use Rattle.vd_subtypes.specs.declared.heads.SubtypeHead.{SubtypeHead}
use Rattle.vd_subtypes.specs.declared.heads.SubtypeHead.TheVariants.{Scalar as ScalarHead, Unbounded, Bounded, Record as RecordHead}

abbrev pub array_head : ScalarSubtype → Option Bounds → SubtypeHead
array_head index None = Unbounded index
array_head index (Some b) = Bounded b

abbrev pub head_of : Subtype → SubtypeHead
head_of (Scalars s) = ScalarHead s
head_of (Arrays index bounds element) = array_head index bounds
head_of (Records fields) = RecordHead (number_of fields)

-- the value made one of a subtype with this head
abbrev pub fit_head : SubtypeHead → Value Scalar → OrStop (Value Scalar)
fit_head (ScalarHead s) (One x) = if belongs s x then Ok (One x) else Err Range
fit_head (Unbounded index) (Array own vs) = indexed index own vs
fit_head (Bounded b) (Array own vs) = if count vs == length_of b then Ok (Array b vs) else Err Length
fit_head (RecordHead n) (FieldsOf vs) = if count vs == n then Ok (FieldsOf vs) else misshapen
fit_head _ _ = misshapen
