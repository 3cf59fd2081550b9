-- The operators on INTEGER and TIME as operators on values. (IEEE 1076-2019, 9.2.6 to 9.2.9; IEEE 1076-1993, 7.2.4 to 7.2.7.)
use Rattle.std.specs.Prelude.{ℕ, ℤ, nat_le, unsigned_abs, Ok, if◌then◌else◌}
use Rattle.vd_values.specs.declared.scalar.Scalar.{Scalar}
use Rattle.vd_values.specs.declared.scalar.Scalar.TheVariants.{Integer as OfInteger, Time as OfTime, Literal as OfLiteral}
use Rattle.vd_values.specs.Times.{greatest_time, time_sum, time_difference, time_product, time_quotient}
use Rattle.vd_integers.specs.Integers.{greatest_integer, sum, difference, product, quotient, remainder, modulus, power, negation, absolute}
use Rattle.vd_composites.specs.Stops.{OrStop, ◌>>=◌}
use Rattle.vd_composites.specs.Composites.{Value, One, scalar_of}
use Rattle.vd_composites.specs.Parts.{misshapen}
use Rattle.vd_vectors.specs.Logics.{or_misshapen}
use Rattle.vd_operators.specs.declared.arithmetic.IntegerOperator.{IntegerOperator}
use Rattle.vd_operators.specs.declared.arithmetic.IntegerOperator.TheVariants.{Add, Subtract, Multiply, Divide, Remainder, Modulus, Power}
use Rattle.vd_operators.specs.declared.arithmetic.SignOperator.{SignOperator}
use Rattle.vd_operators.specs.declared.arithmetic.SignOperator.TheVariants.{Identity, Negation, Absolute}
use Rattle.vd_operators.specs.declared.arithmetic.TimeOperator.{TimeOperator}
use Rattle.vd_operators.specs.declared.arithmetic.TimeOperator.TheVariants.{TimeAdd, TimeSubtract, TimesInteger, IntegerTimes, DividedByInteger}

-- a value of INTEGER and a value of TIME
abbrev pub as_integer : Scalar → OrStop ℤ
as_integer (OfInteger x) = if nat_le (unsigned_abs x) greatest_integer then Ok x else misshapen
as_integer (OfTime t) = misshapen
as_integer (OfLiteral n) = misshapen

abbrev pub as_time : Scalar → OrStop ℕ
as_time (OfTime t) = if nat_le t greatest_time then Ok t else misshapen
as_time (OfInteger x) = misshapen
as_time (OfLiteral n) = misshapen

abbrev pub integer_in : Value Scalar → OrStop ℤ
integer_in v = or_misshapen (scalar_of v) >>= as_integer

abbrev pub time_in : Value Scalar → OrStop ℕ
time_in v = or_misshapen (scalar_of v) >>= as_time

-- what comes to a scalar, as a value
abbrev pub integer_value : OrStop ℤ → OrStop (Value Scalar)
integer_value g = g >>= λ x. Ok (One (OfInteger x))

abbrev pub time_value : OrStop ℕ → OrStop (Value Scalar)
time_value g = g >>= λ t. Ok (One (OfTime t))

abbrev pub of_integers : IntegerOperator → ℤ → ℤ → OrStop ℤ
of_integers Add a b = sum a b
of_integers Subtract a b = difference a b
of_integers Multiply a b = product a b
of_integers Divide a b = quotient a b
of_integers Remainder a b = remainder a b
of_integers Modulus a b = modulus a b
of_integers Power a b = power a b

abbrev pub integer_operation : IntegerOperator → Value Scalar → Value Scalar → OrStop (Value Scalar)
integer_operation o l r = integer_in l >>= λ a. integer_in r >>= λ b. integer_value (of_integers o a b)

abbrev pub of_integer : SignOperator → ℤ → OrStop ℤ
of_integer Identity a = Ok a
of_integer Negation a = negation a
of_integer Absolute a = absolute a

abbrev pub sign_operation : SignOperator → Value Scalar → OrStop (Value Scalar)
sign_operation o v = integer_in v >>= λ a. integer_value (of_integer o a)

abbrev pub time_operation : TimeOperator → Value Scalar → Value Scalar → OrStop (Value Scalar)
time_operation TimeAdd l r = time_in l >>= λ a. time_in r >>= λ b. time_value (time_sum a b)
time_operation TimeSubtract l r = time_in l >>= λ a. time_in r >>= λ b. time_value (time_difference a b)
time_operation TimesInteger l r = time_in l >>= λ a. integer_in r >>= λ b. time_value (time_product a b)
time_operation IntegerTimes l r = integer_in l >>= λ a. time_in r >>= λ b. time_value (time_product b a)
time_operation DividedByInteger l r = time_in l >>= λ a. integer_in r >>= λ b. time_value (time_quotient a b)
