-- Ranges of values as intervals of numbers that count from the least value on.
use Rattle.std.specs.Prelude.{◌≡◌, ◌∷◌, ◌+ℤ◌, List, [], pos, ℕ}
use Rattle.vd_choices.specs.declared.intervals.Interval.{Interval}
use Rattle.vd_composites.specs.Ranges.{high_of, low_of}
use Rattle.vd_composites.specs.declared.ranges.Bounds.{Bounds}

-- 2 to the power 63: the least value is this much below 0
abbrev pub middle : ℕ
middle = 9223372036854775808

pub record IsInterval (x : Interval) (b : Bounds) : Type 0 where
  pub low : pos x.low ≡ low_of b +ℤ pos middle
  pub high : pos x.high ≡ high_of b +ℤ pos middle

abbrev pub AreIntervals : List Interval → List Bounds → Type 0
AreIntervals [] [] = Unit {0}
AreIntervals (x ∷ xs) (b ∷ bs) = IsInterval x b × AreIntervals xs bs
AreIntervals _ _ = ⊥
