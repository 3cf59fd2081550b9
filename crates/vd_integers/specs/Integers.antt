-- Values of INTEGER and what its operators give. (IEEE 1076, integer types; the sign, adding, multiplying and miscellaneous operators.)
-- They are the whole numbers from -2147483647 to 2147483647. A result outside them stops with Overflow.
use Rattle.std.specs.Prelude.{ℕ, ℤ, pos, negsuc, ◌+ℤ◌, ◌-ℤ◌, ◌*ℤ◌, int_div, neg_ℤ, ◌≤◌, nat_le, ◌==◌, unsigned_abs, Result, Ok, Err, if◌then◌else◌}
use Rattle.std.specs.Int.{int_pow}
use Rattle.vd_values.specs.declared.scalar.StopKind.{StopKind}
use Rattle.vd_values.specs.declared.scalar.StopKind.TheVariants.{Range, Overflow, DivideByZero}
use Rattle.vd_integers.specs.Divisions.{remainder_of, modulus_of}

abbrev pub greatest_integer : ℕ
greatest_integer = 2147483647

abbrev pub IsInteger : ℤ → Type 0
IsInteger z = unsigned_abs z ≤ greatest_integer

-- a whole number as a value of INTEGER
abbrev pub integer_of : ℤ → Result ℤ StopKind
integer_of z = if nat_le (unsigned_abs z) greatest_integer then Ok z else Err Overflow

abbrev pub sum : ℤ → ℤ → Result ℤ StopKind
sum a b = integer_of (a +ℤ b)

abbrev pub difference : ℤ → ℤ → Result ℤ StopKind
difference a b = integer_of (a -ℤ b)

abbrev pub product : ℤ → ℤ → Result ℤ StopKind
product a b = integer_of (a *ℤ b)

-- the operators on two numbers that have no value where the second is 0
abbrev pub unless_by_zero : ℤ → ℤ → Result ℤ StopKind
unless_by_zero b value = if unsigned_abs b == 0 then Err DivideByZero else Ok value

-- division truncates toward zero
abbrev pub quotient : ℤ → ℤ → Result ℤ StopKind
quotient a b = unless_by_zero b (int_div a b)

abbrev pub remainder : ℤ → ℤ → Result ℤ StopKind
remainder a b = unless_by_zero b (remainder_of a b)

abbrev pub modulus : ℤ → ℤ → Result ℤ StopKind
modulus a b = unless_by_zero b (modulus_of a b)

-- the exponent isn't negative
abbrev pub power : ℤ → ℤ → Result ℤ StopKind
power a (pos n) = integer_of (int_pow a n)
power a (negsuc n) = Err Range

abbrev pub negation : ℤ → Result ℤ StopKind
negation a = integer_of (neg_ℤ a)

abbrev pub absolute : ℤ → Result ℤ StopKind
absolute a = integer_of (pos (unsigned_abs a))
