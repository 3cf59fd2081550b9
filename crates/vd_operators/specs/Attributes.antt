-- Attributes of arrays, of scalar subtypes and of discrete types. (IEEE 1076-2019, 16.2; IEEE 1076-1993, 14.1.)
use Rattle.std.specs.Prelude.{ℤ, pos, ◌+ℤ◌, ◌-ℤ◌, int_le, Bool, Ok, if◌then◌else◌}
use Rattle.vd_values.specs.declared.scalar.Scalar.{Scalar}
use Rattle.vd_integers.specs.Integers.{integer_of}
use Rattle.vd_composites.specs.declared.ranges.Bounds.{Bounds}
use Rattle.vd_composites.specs.declared.scalars.ScalarType.{ScalarType}
use Rattle.vd_composites.specs.declared.scalars.ScalarSubtype.{ScalarSubtype}
use Rattle.vd_composites.specs.Stops.{OrStop, ◌>>=◌}
use Rattle.vd_composites.specs.Ranges.{length_of, reversed}
use Rattle.vd_composites.specs.Scalars.{position_of, value_at}
use Rattle.vd_composites.specs.Composites.{Value, One, bounds_of, scalar_of}
use Rattle.vd_vectors.specs.Logics.{or_misshapen}
use Rattle.vd_operators.specs.Arithmetic.{integer_in, integer_value}
use Rattle.vd_operators.specs.declared.attributes.Side.{Side}
use Rattle.vd_operators.specs.declared.attributes.Side.TheVariants.{LeftSide, RightSide, HighSide, LowSide}
use Rattle.vd_operators.specs.declared.attributes.DiscreteAttribute.{DiscreteAttribute}
use Rattle.vd_operators.specs.declared.attributes.DiscreteAttribute.TheVariants.{Position, ValueAt, Successor, Predecessor}

-- The smaller of both bounds of a range is its lower bound and the larger the upper one, also where it is null. (IEEE 1076-2019, 5.2.1;
-- IEEE 1076-1993, 3.1.)
abbrev pub side_of : Side → Bounds → ℤ
side_of LeftSide b = b.left
side_of RightSide b = b.right
side_of HighSide b = if int_le b.left b.right then b.right else b.left
side_of LowSide b = if int_le b.left b.right then b.left else b.right

abbrev pub scalar_value : OrStop Scalar → OrStop (Value Scalar)
scalar_value g = g >>= λ x. Ok (One x)

-- 'left, 'right, 'high and 'low of an array, by the type of its index: a bound that isn't of the type stops with Range
abbrev pub array_bound : Side → ScalarType → Value Scalar → OrStop (Value Scalar)
array_bound side index v = or_misshapen (bounds_of v) >>= λ b. scalar_value (value_at index (side_of side b))

-- 'length of an array, which is a value of INTEGER
abbrev pub array_length : Value Scalar → OrStop (Value Scalar)
array_length v = or_misshapen (bounds_of v) >>= λ b. integer_value (integer_of (pos (length_of b)))

-- 'range and 'reverse_range of an array, which are ranges and no values. Their bounds are those of 'left and 'right, with the same stops.
abbrev pub array_range : Bool → ScalarType → Value Scalar → OrStop Bounds
array_range backwards index v =
    or_misshapen (bounds_of v) >>= λ b. value_at index b.left >>= λ x. value_at index b.right >>= λ y. Ok (if backwards then reversed b else b)

-- 'left, 'right, 'high and 'low of a scalar subtype
abbrev pub subtype_bound : Side → ScalarSubtype → OrStop (Value Scalar)
subtype_bound side s = scalar_value (value_at s.of_type (side_of side s.range))

-- 'pos, 'val, 'succ and 'pred of a discrete type and of TIME. (The manual has 'succ and 'pred step by positions.)
abbrev pub discrete : DiscreteAttribute → Value Scalar → OrStop (Value Scalar)
discrete Position v = or_misshapen (scalar_of v) >>= λ x. integer_value (integer_of (position_of x))
discrete (ValueAt of) v = integer_in v >>= λ x. scalar_value (value_at of x)
discrete (Successor of) v = or_misshapen (scalar_of v) >>= λ x. scalar_value (value_at of (position_of x +ℤ pos 1))
discrete (Predecessor of) v = or_misshapen (scalar_of v) >>= λ x. scalar_value (value_at of (position_of x -ℤ pos 1))
