-- The order in which texts within an interval are tried: the last element counts most.
use Rattle.std.specs.Prelude.{◌≡◌, ℕ, ◌+◌, ◌-◌, ◌*◌, ◌<◌, ◌⊎◌, List, [], ◌∷◌, Option, Some, None, nat_lt, nat_eq, Bool, if◌then◌else◌}
use Rattle.std.specs.List.{list_any}
use denote.Ref.{Bor}
use lib.Pointwise.{pointwise}
use Rattle.std.specs.Option.{option_map}
use Rattle.vd_choices.specs.declared.intervals.Interval.{Interval}

-- the one text is tried before the other
abbrev pub Before : List ℕ → List ℕ → Type 0
Before [] other = ⊥
Before (x ∷ xs) [] = ⊥
Before (x ∷ xs) (y ∷ ys) = Before xs ys ⊎ ((xs ≡ ys) × (x < y))

-- the text that is tried next, if any
abbrev pub next_text : Interval → List ℕ → Option (List ℕ)
next_text within [] = None
next_text within (x ∷ xs) = if nat_lt x within.high then Some ((x + 1) ∷ xs) else option_map (λ rest. within.low ∷ rest) (next_text within xs)

-- how many texts are tried after this one
abbrev pub texts_left : Interval → List ℕ → ℕ
texts_left within [] = 0
texts_left within (x ∷ xs) = (within.high - x) + (within.high - within.low + 1) * texts_left within xs

-- one of the borrowed texts is this one
abbrev pub has_text : List (Bor (List ℕ)) → List ℕ → Bool
has_text keys text = list_any (λ key. pointwise nat_eq text key.now) keys
