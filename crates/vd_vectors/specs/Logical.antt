-- The logical operators. (IEEE 1076-2019, 9.2.2 and 9.2.9; IEEE 1076-1993, 7.2.1; IEEE 1164.)
-- On BIT and BOOLEAN `and`, `or`, `nand` and `nor` look at the right operand only where it is needed. That is a matter of expressions:
-- here both operands have been evaluated.
use Rattle.std.specs.Prelude.{◌==◌, List, [], ◌∷◌, length, map, Option, Some, None, Ok, Err, if◌then◌else◌}
use Rattle.vd_values.specs.declared.scalar.Scalar.{Scalar}
use Rattle.vd_values.specs.declared.scalar.StopKind.TheVariants.{Length}
use Rattle.vd_values.specs.declared.logic.Logic.{Logic}
use Rattle.vd_values.specs.declared.logic.Logic.TheVariants.{Zero, One}
use Rattle.vd_values.specs.LogicTables.{and_of, or_of, xor_of, not_of}
use Rattle.vd_composites.specs.declared.ranges.Bounds.{Bounds}
use Rattle.vd_composites.specs.Stops.{OrStop, ◌>>=◌}
use Rattle.vd_composites.specs.Composites.{Value, bounds_of}
use Rattle.vd_vectors.specs.declared.logics.LogicType.{LogicType}
use Rattle.vd_vectors.specs.declared.logical.LogicalOperator.{LogicalOperator}
use Rattle.vd_vectors.specs.declared.logical.LogicalOperator.TheVariants.{And, Or, Nand, Nor, Xor, Xnor}
use Rattle.vd_vectors.specs.Logics.{logic_in, logics_in, logic_value, result_array}

-- of two values
abbrev pub logical_of : LogicalOperator → Logic → Logic → Logic
logical_of And x y = and_of x y
logical_of Or x y = or_of x y
logical_of Nand x y = not_of (and_of x y)
logical_of Nor x y = not_of (or_of x y)
logical_of Xor x y = xor_of x y
logical_of Xnor x y = not_of (xor_of x y)

-- of two lists, element by element, as far as both go
abbrev pub combined : LogicalOperator → List Logic → List Logic → List Logic
combined o [] ys = []
combined o (x ∷ xs) [] = []
combined o (x ∷ xs) (y ∷ ys) = logical_of o x y ∷ combined o xs ys

-- Two arrays have equally many elements.
abbrev pub both : LogicalOperator → LogicType → Bounds → List Logic → List Logic → OrStop (Value Scalar)
both o t b xs ys = if length xs == length ys then result_array t b (combined o xs ys) else Err Length

abbrev pub logical_arrays : LogicalOperator → LogicType → Bounds → Value Scalar → Value Scalar → OrStop (Value Scalar)
logical_arrays o t b l r = logics_in t l >>= λ xs. logics_in t r >>= λ ys. both o t b xs ys

-- the operator on two values: of two arrays the bounds are those of the left one, of an array and a scalar those of the array
abbrev pub by_shapes : LogicalOperator → LogicType → Option Bounds → Option Bounds → Value Scalar → Value Scalar → OrStop (Value Scalar)
by_shapes o t (Some b) (Some c) l r = logical_arrays o t b l r
by_shapes o t (Some b) None l r = logics_in t l >>= λ xs. logic_in t r >>= λ y. result_array t b (map (λ x. logical_of o x y) xs)
by_shapes o t None (Some c) l r = logic_in t l >>= λ x. logics_in t r >>= λ ys. result_array t c (map (λ y. logical_of o x y) ys)
by_shapes o t None None l r = logic_in t l >>= λ x. logic_in t r >>= λ y. Ok (logic_value t (logical_of o x y))

abbrev pub logical : LogicalOperator → LogicType → Value Scalar → Value Scalar → OrStop (Value Scalar)
logical o t l r = by_shapes o t (bounds_of l) (bounds_of r) l r

-- the operator `not`
abbrev pub negated_by : LogicType → Option Bounds → Value Scalar → OrStop (Value Scalar)
negated_by t (Some b) v = logics_in t v >>= λ xs. result_array t b (map not_of xs)
negated_by t None v = logic_in t v >>= λ x. Ok (logic_value t (not_of x))

abbrev pub negated : LogicType → Value Scalar → OrStop (Value Scalar)
negated t v = negated_by t (bounds_of v) v

-- ---- reductions

-- a value and then those of a list, taken together from the left
abbrev pub folded : LogicalOperator → Logic → List Logic → Logic
folded o a [] = a
folded o a (x ∷ xs) = folded o (logical_of o a x) xs

-- `and`, `or` and `xor` begin with what they give of a null array; `nand`, `nor` and `xnor` are `not` of these
abbrev pub reduced : LogicalOperator → List Logic → Logic
reduced And xs = folded And One xs
reduced Or xs = folded Or Zero xs
reduced Xor xs = folded Xor Zero xs
reduced Nand xs = not_of (folded And One xs)
reduced Nor xs = not_of (folded Or Zero xs)
reduced Xnor xs = not_of (folded Xor Zero xs)

abbrev pub reduction : LogicalOperator → LogicType → Value Scalar → OrStop (Value Scalar)
reduction o t v = logics_in t v >>= λ xs. Ok (logic_value t (reduced o xs))
