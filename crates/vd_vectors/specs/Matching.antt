-- The matching operators and the condition operator. (IEEE 1076-2019, 9.2.3 and 9.2.9.)
use Rattle.std.specs.Prelude.{◌==◌, Bool, List, [], ◌∷◌, length, Option, Some, None, Ok, Err, if◌then◌else◌}
use Rattle.vd_values.specs.declared.scalar.Scalar.{Scalar}
use Rattle.vd_values.specs.declared.scalar.StopKind.TheVariants.{Length}
use Rattle.vd_values.specs.declared.logic.Logic.{Logic}
use Rattle.vd_values.specs.declared.logic.Logic.TheVariants.{One}
use Rattle.vd_values.specs.LogicTables.{and_of, not_of}
use Rattle.vd_values.specs.Matching.{match_of, condition_of}
use Rattle.vd_composites.specs.declared.ranges.Bounds.{Bounds}
use Rattle.vd_composites.specs.Stops.{OrStop, ◌>>=◌}
use Rattle.vd_composites.specs.Composites.{Value, bounds_of}
use Rattle.vd_composites.specs.Parts.{misshapen}
use Rattle.vd_vectors.specs.declared.logics.LogicType.{LogicType}
use Rattle.vd_vectors.specs.Logics.{logic_in, logics_in, logic_value, truth}

-- the matches of the elements of two lists in pairs, taken together by `and`, as far as both go
abbrev pub match_all : Logic → List Logic → List Logic → Logic
match_all a [] ys = a
match_all a (x ∷ xs) [] = a
match_all a (x ∷ xs) (y ∷ ys) = match_all (and_of a (match_of x y)) xs ys

-- of two arrays, which have equally many elements; of null ones it is '1'
abbrev pub match_both : List Logic → List Logic → OrStop Logic
match_both xs ys = if length xs == length ys then Ok (match_all One xs ys) else Err Length

abbrev pub match_arrays : LogicType → Value Scalar → Value Scalar → OrStop Logic
match_arrays t l r = logics_in t l >>= λ xs. logics_in t r >>= λ ys. match_both xs ys

abbrev pub match_by_shapes : LogicType → Option Bounds → Option Bounds → Value Scalar → Value Scalar → OrStop Logic
match_by_shapes t (Some b) (Some c) l r = match_arrays t l r
match_by_shapes t None None l r = logic_in t l >>= λ x. logic_in t r >>= λ y. Ok (match_of x y)
match_by_shapes t _ _ l r = misshapen

-- the operator `?=`, and `?/=`, which is `not` of it
abbrev pub matching : LogicType → Value Scalar → Value Scalar → OrStop Logic
matching t l r = match_by_shapes t (bounds_of l) (bounds_of r) l r

abbrev pub equal_or_not : Bool → Logic → Logic
equal_or_not equal a = if equal then a else not_of a

abbrev pub matches : Bool → LogicType → Value Scalar → Value Scalar → OrStop (Value Scalar)
matches equal t l r = matching t l r >>= λ a. Ok (logic_value t (equal_or_not equal a))

-- the operator `??`
abbrev pub condition : LogicType → Value Scalar → OrStop (Value Scalar)
condition t v = logic_in t v >>= λ a. Ok (truth (condition_of a))
