-- Laws of the operators on logical values.
use Rattle.std.specs.Prelude.{◌≡◌, ℤ, Bool, not, ◌&&◌, ◌||◌, List, length, if◌then◌else◌}
use Rattle.vd_values.specs.declared.logic.Logic.{Logic}
use Rattle.vd_values.specs.declared.logic.Logic.TheVariants.{Zero, One}
use Rattle.vd_values.specs.LogicTables.{and_of, or_of, xor_of, not_of}
use Rattle.vd_values.specs.Matching.{match_of, condition_of}
use Rattle.vd_vectors.specs.declared.logical.LogicalOperator.{LogicalOperator}
use Rattle.vd_vectors.specs.declared.shifts.ShiftOperator.{ShiftOperator}
use Rattle.vd_vectors.specs.Logical.{combined}
use Rattle.vd_vectors.specs.Shifts.{shifted}

-- a value of BIT or BOOLEAN as it stands here
abbrev pub of_bool : Bool → Logic
of_bool b = if b then One else Zero

abbrev pub different : Bool → Bool → Bool
different a b = if a then not b else b

-- On the two values the tables of STD_ULOGIC are those of BIT and BOOLEAN, and `?=` is equality.
pub record TwoValuesAreBits : Type 0 where
  pub conjunction : (a b : Bool) → and_of (of_bool a) (of_bool b) ≡ of_bool (a && b)
  pub disjunction : (a b : Bool) → or_of (of_bool a) (of_bool b) ≡ of_bool (a || b)
  pub exclusion : (a b : Bool) → xor_of (of_bool a) (of_bool b) ≡ of_bool (different a b)
  pub negation : (a : Bool) → not_of (of_bool a) ≡ of_bool (not a)
  pub matching : (a b : Bool) → match_of (of_bool a) (of_bool b) ≡ of_bool (not (different a b))
  pub condition : (a : Bool) → condition_of (of_bool a) ≡ a

-- results are as long as their operands
pub record LengthsStay : Type 0 where
  pub logical : (o : LogicalOperator) (xs ys : List Logic) → length xs ≡ length ys → length (combined o xs ys) ≡ length xs
  pub shifts : (o : ShiftOperator) (n : ℤ) (xs : List Logic) → length (shifted o n xs) ≡ length xs
