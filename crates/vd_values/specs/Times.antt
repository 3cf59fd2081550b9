-- Values of TIME and what its operators give. (IEEE 1076, physical types; adding and multiplying operators, of which division
-- truncates toward zero.) Here they count femtoseconds, from 0 to 2^63 - 1.
use Rattle.std.specs.Prelude.{ℕ, ℤ, pos, negsuc, ◌+ℤ◌, ◌-ℤ◌, ◌*ℤ◌, int_div, ◌-◌, ◌^◌, ◌≤◌, nat_le, ◌==◌, unsigned_abs, Result, Ok, Err, if◌then◌else◌}
use Rattle.vd_values.specs.declared.scalar.StopKind.{StopKind}
use Rattle.vd_values.specs.declared.scalar.StopKind.TheVariants.{Overflow, DivideByZero}

abbrev pub greatest_time : ℕ
greatest_time = 2 ^ 63 - 1

abbrev pub IsTime : ℕ → Type 0
IsTime t = t ≤ greatest_time

-- a whole number as a value of TIME, which a negative one isn't
abbrev pub time_of : ℤ → Result ℕ StopKind
time_of (pos n) = if nat_le n greatest_time then Ok n else Err Overflow
time_of (negsuc n) = Err Overflow

abbrev pub time_sum : ℕ → ℕ → Result ℕ StopKind
time_sum a b = time_of (pos a +ℤ pos b)

abbrev pub time_difference : ℕ → ℕ → Result ℕ StopKind
time_difference a b = time_of (pos a -ℤ pos b)

abbrev pub time_product : ℕ → ℤ → Result ℕ StopKind
time_product a k = time_of (pos a *ℤ k)

-- by a number other than 0
abbrev pub time_quotient : ℕ → ℤ → Result ℕ StopKind
time_quotient a k = if unsigned_abs k == 0 then Err DivideByZero else time_of (int_div (pos a) k)
