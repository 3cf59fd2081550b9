-- Every predefined operator, attribute and conversion on values: what it gives, or the kind of its stop. A value of another shape than the operator takes gives
-- what `misshapen` says; no design that the rules accept comes to one.
-- That `and`, `or`, `nand` and `nor` on BIT and BOOLEAN look at the right operand only where it is needed is a matter of expressions: here all operands
-- have been evaluated.
use Rattle.std.specs.Prelude.{Bool, not, List, [], ◌∷◌, Ok, if◌then◌else◌}
use Rattle.vd_values.specs.declared.scalar.Scalar.{Scalar}
use Rattle.vd_composites.specs.Stops.{OrStop, ◌>>=◌}
use Rattle.vd_composites.specs.Composites.{Value, same_value}
use Rattle.vd_composites.specs.Parts.{misshapen}
use Rattle.vd_vectors.specs.Logics.{truth}
use Rattle.vd_vectors.specs.Logical.{logical, negated, reduction}
use Rattle.vd_vectors.specs.Shifts.{shift}
use Rattle.vd_vectors.specs.Matching.{matches, condition}
use Rattle.vd_vectors.specs.Orders.{ordered, matching_ordered}
use Rattle.vd_subtypes.specs.Heads.{fit_head}
use Rattle.vd_subtypes.specs.Operands.{concatenated}
use Rattle.vd_operators.specs.Arithmetic.{integer_in, integer_operation, sign_operation, time_operation}
use Rattle.vd_operators.specs.Attributes.{array_bound, array_length, subtype_bound, discrete}
use Rattle.vd_operators.specs.Texts.{written}
use Rattle.vd_operators.specs.declared.op.Op.{Op}
use Rattle.vd_operators.specs.declared.op.Op.TheVariants.{SubtypeBound, Unary, Binary}
use Rattle.vd_operators.specs.declared.op.UnaryOp.{UnaryOp}
use Rattle.vd_operators.specs.declared.op.UnaryOp.TheVariants.{Sign, Not, Reduction, Condition, Conversion, ArrayBound, ArrayLength, Discrete, Text}
use Rattle.vd_operators.specs.declared.op.BinaryOp.{BinaryOp}
use Rattle.vd_operators.specs.declared.op.BinaryOp.TheVariants.{Integer, Time, Equality, Order, Logical, Shift, Matching, MatchingOrder, Concatenation}

-- "=" and "/=" of every type
abbrev pub equality : Bool → Value Scalar → Value Scalar → OrStop (Value Scalar)
equality equal l r = Ok (truth (if equal then same_value l r else not (same_value l r)))

abbrev pub applied_to_one : UnaryOp → Value Scalar → OrStop (Value Scalar)
applied_to_one (Sign o) v = sign_operation o v
applied_to_one (Not of) v = negated of v
applied_to_one (Reduction o of) v = reduction o of v
applied_to_one (Condition of) v = condition of v
applied_to_one (Conversion head) v = fit_head head v
applied_to_one (ArrayBound side index) v = array_bound side index v
applied_to_one ArrayLength v = array_length v
applied_to_one (Discrete attribute) v = discrete attribute v
applied_to_one (Text o) v = written o v

abbrev pub applied_to_two : BinaryOp → Value Scalar → Value Scalar → OrStop (Value Scalar)
applied_to_two (Integer o) l r = integer_operation o l r
applied_to_two (Time o) l r = time_operation o l r
applied_to_two (Equality equal) l r = equality equal l r
applied_to_two (Order o) l r = ordered o l r
applied_to_two (Logical o of) l r = logical o of l r
applied_to_two (Shift o of) l r = integer_in r >>= λ n. shift o of l n
applied_to_two (Matching equal of) l r = matches equal of l r
applied_to_two (MatchingOrder o) l r = matching_ordered o l r
applied_to_two (Concatenation index element left right) l r = concatenated index element left right l r

-- an operator on its operands, from left to right
abbrev pub applied : Op → List (Value Scalar) → OrStop (Value Scalar)
applied (SubtypeBound side s) [] = subtype_bound side s
applied (Unary o) (v ∷ []) = applied_to_one o v
applied (Binary o) (l ∷ r ∷ []) = applied_to_two o l r
applied _ _ = misshapen
