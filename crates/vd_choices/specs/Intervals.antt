-- IEEE 1076, case statement and selected signal assignment, choices of a scalar type: an expression or a range stands for values,
-- each value is given at most once, and the choices give all that they must take. Values are counted by their positions.
use Rattle.std.specs.Prelude.{ℕ, ◌≤◌, ◌<◌, List, slice_index_or}
use Rattle.vd_choices.specs.declared.intervals.Interval.{Interval}

-- the interval has the value; a null one, whose right end is below its left, has none
abbrev pub Has : Interval → ℕ → Type 0
Has interval value = (interval.low ≤ value) × (value ≤ interval.high)

-- the choice at a place of the text; behind the last one a null choice
abbrev pub choice_at : List Interval → ℕ → Interval
choice_at choices k = slice_index_or choices k (record { low = 1; high = 0 })

-- one of the choices has the value
abbrev pub IsGiven : List Interval → ℕ → Type 0
IsGiven choices value = (k : ℕ) × Has (choice_at choices k) value

-- each value that the choices must take is given
abbrev pub IsCovered : Interval → List Interval → Type 0
IsCovered within choices = (value : ℕ) → Has within value → IsGiven choices value

-- two choices have a value in common
abbrev pub Share : Interval → Interval → Type 0
Share a b = (value : ℕ) × Has a value × Has b value

-- the choice at k has a value in common with an earlier one
abbrev pub RepeatsEarlier : List Interval → ℕ → Type 0
RepeatsEarlier choices k = (j : ℕ) × (j < k) × Share (choice_at choices j) (choice_at choices k)

-- some value is given twice
abbrev pub IsRepeated : List Interval → Type 0
IsRepeated choices = (k : ℕ) × RepeatsEarlier choices k

-- the choice at k is the first, in the order of the text, that repeats a value
abbrev pub IsFirstRepeated : List Interval → ℕ → Type 0
IsFirstRepeated choices k = RepeatsEarlier choices k × ((i : ℕ) → i < k → ¬ RepeatsEarlier choices i)
