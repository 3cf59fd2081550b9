-- The six shifts. (IEEE 1076-2019, 9.2.4; IEEE 1076-1993, 7.2.3.) A shift by a count is the shift by one place as many times. By a negative
-- count it is the opposite one, as many times as the count's size.
use Rattle.std.specs.Prelude.{ℕ, zero, suc, ℤ, pos, negsuc, List, [], ◌∷◌, ◌++◌, length, take, Option, Some, None}
use Rattle.vd_values.specs.declared.scalar.Scalar.{Scalar}
use Rattle.vd_values.specs.declared.logic.Logic.{Logic}
use Rattle.vd_values.specs.declared.logic.Logic.TheVariants.{Zero}
use Rattle.vd_composites.specs.declared.ranges.Bounds.{Bounds}
use Rattle.vd_composites.specs.Stops.{OrStop, ◌>>=◌}
use Rattle.vd_composites.specs.Composites.{Value, bounds_of}
use Rattle.vd_composites.specs.Parts.{misshapen}
use Rattle.vd_vectors.specs.declared.logics.LogicType.{LogicType}
use Rattle.vd_vectors.specs.declared.shifts.ShiftOperator.{ShiftOperator}
use Rattle.vd_vectors.specs.declared.shifts.ShiftOperator.TheVariants.{LogicalLeft, LogicalRight, ArithmeticLeft, ArithmeticRight, RotateLeft, RotateRight}
use Rattle.vd_vectors.specs.Logics.{logics_in, result_array}

abbrev pub opposite : ShiftOperator → ShiftOperator
opposite LogicalLeft = LogicalRight
opposite LogicalRight = LogicalLeft
opposite ArithmeticLeft = ArithmeticRight
opposite ArithmeticRight = ArithmeticLeft
opposite RotateLeft = RotateRight
opposite RotateRight = RotateLeft

-- the elements at both ends, and something else where there is none
abbrev pub leftmost : Logic → List Logic → Logic
leftmost other [] = other
leftmost other (x ∷ xs) = x

abbrev pub rightmost : Logic → List Logic → Logic
rightmost other [] = other
rightmost other (x ∷ xs) = rightmost x xs

-- One place to the left and one to the right: the element at one end goes, and another comes in at the other end. A null array stays null.
abbrev pub one_left : Logic → List Logic → List Logic
one_left new [] = []
one_left new (x ∷ xs) = xs ++ new ∷ []

abbrev pub one_right : Logic → List Logic → List Logic
one_right new xs = take (length xs) (new ∷ xs)

-- What comes in: with `sll` and `srl` the leftmost value of the element type, which of the vectors of std_logic_1164 is '0' too; with `sla` the rightmost element,
-- with `sra` the leftmost one; with `rol` and `ror` the element that went.
abbrev pub one_place : ShiftOperator → List Logic → List Logic
one_place LogicalLeft xs = one_left Zero xs
one_place LogicalRight xs = one_right Zero xs
one_place ArithmeticLeft xs = one_left (rightmost Zero xs) xs
one_place ArithmeticRight xs = one_right (leftmost Zero xs) xs
one_place RotateLeft xs = one_left (leftmost Zero xs) xs
one_place RotateRight xs = one_right (rightmost Zero xs) xs

abbrev pub places : ℕ → ShiftOperator → List Logic → List Logic
places zero o xs = xs
places (suc n) o xs = one_place o (places n o xs)

abbrev pub shifted : ShiftOperator → ℤ → List Logic → List Logic
shifted o (pos n) xs = places n o xs
shifted o (negsuc n) xs = places (suc n) (opposite o) xs

abbrev pub shifted_on : LogicType → ShiftOperator → ℤ → Option Bounds → Value Scalar → OrStop (Value Scalar)
shifted_on t o n (Some b) v = logics_in t v >>= λ xs. result_array t b (shifted o n xs)
shifted_on t o n None v = misshapen

abbrev pub shift : ShiftOperator → LogicType → Value Scalar → ℤ → OrStop (Value Scalar)
shift o t v n = shifted_on t o n (bounds_of v) v
