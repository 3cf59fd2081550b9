-- Scalar types, which values they have, and scalar subtypes with evaluated bounds.
-- (IEEE 1076-2019, 5.2 and 6.3; IEEE 1076-1993, 3.1 and 4.2.)
use Rattle.std.specs.Prelude.{◌==◌, ℤ, pos, negsuc, ◌-ℤ◌, Bool, true, false, ◌&&◌, Ok, Err, if◌then◌else◌}
use Rattle.std.specs.Ordering.{int_eq}
use Rattle.vd_values.specs.declared.scalar.Scalar.{Scalar}
use Rattle.vd_values.specs.declared.scalar.Scalar.TheVariants.{Integer, Literal, Time}
use Rattle.vd_values.specs.declared.scalar.StopKind.TheVariants.{Range}
use Rattle.vd_values.specs.Times.{greatest_time}
use Rattle.vd_composites.specs.declared.ranges.Bounds.{Bounds}
use Rattle.vd_composites.specs.declared.scalars.ScalarType.{ScalarType}
use Rattle.vd_composites.specs.declared.scalars.ScalarType.TheVariants.{Integers, Enumeration, Times}
use Rattle.vd_composites.specs.declared.scalars.ScalarSubtype.{ScalarSubtype}
use Rattle.vd_composites.specs.Stops.{OrStop}
use Rattle.vd_composites.specs.Ranges.{is_within, size_of}

-- whether two scalar values are one
abbrev pub same_scalar : Scalar → Scalar → Bool
same_scalar (Integer x) (Integer y) = int_eq x y
same_scalar (Literal m) (Literal n) = m == n
same_scalar (Time s) (Time t) = s == t
same_scalar _ _ = false

-- the position of a value in its type: of an integer its value, of a TIME the number of its femtoseconds
abbrev pub position_of : Scalar → ℤ
position_of (Integer x) = x
position_of (Literal n) = pos n
position_of (Time t) = pos t

-- the value at a position
abbrev pub scalar_at : ScalarType → ℤ → Scalar
scalar_at Integers x = Integer x
scalar_at (Enumeration count) x = Literal (size_of x)
scalar_at Times x = Time (size_of x)

-- the range of all values of a type: INTEGER has -2147483647 to 2147483647, TIME has 0 to 2^63 - 1
abbrev pub whole_range : ScalarType → Bounds
whole_range Integers = record { left = negsuc 2147483646; right = pos 2147483647; down = false }
whole_range (Enumeration count) = record { left = pos 0; right = pos count -ℤ pos 1; down = false }
whole_range Times = record { left = pos 0; right = pos greatest_time; down = false }

-- the value at a position, where the type has one
abbrev pub value_at : ScalarType → ℤ → OrStop Scalar
value_at t x = if is_within (whole_range t) x then Ok (scalar_at t x) else Err Range

-- whether a value is one of these types, by its kind
abbrev pub is_of : ScalarType → Scalar → Bool
is_of Integers (Integer x) = true
is_of (Enumeration count) (Literal n) = true
is_of Times (Time t) = true
is_of _ _ = false

-- whether a value belongs to a scalar subtype
abbrev pub belongs : ScalarSubtype → Scalar → Bool
belongs s x = is_of s.of_type x && is_within s.range (position_of x)
