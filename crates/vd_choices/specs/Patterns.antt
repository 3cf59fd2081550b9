-- IEEE 1076, case statement and selected signal assignment, matching ones: a choice is taken where `?=` of the selector and the choice is '1'.
-- Choices are arrays of values of std_ulogic, of which no two are taken together.
use Rattle.std.specs.Prelude.{◌≡◌, ◌<◌, ℕ, List, [], ◌∷◌, map, length, slice_index_or}
use Rattle.vd_values.specs.declared.logic.Logic.{Logic}
use Rattle.vd_values.specs.declared.logic.Logic.TheVariants.{One}
use Rattle.vd_values.specs.LogicTables.{and_of}
use Rattle.vd_values.specs.Matching.{match_of}
use Rattle.vd_choices.specs.declared.patterns.Pattern.{Pattern}

-- `and`, from a value on, of `?=` of the elements of two arrays in pairs
abbrev pub match_all : Logic → List Logic → List Logic → Logic
match_all a [] ys = a
match_all a (x ∷ xs) [] = a
match_all a (x ∷ xs) (y ∷ ys) = match_all (and_of a (match_of x y)) xs ys

-- two choices of one length, of which `?=` gives '1'; it does so of two null arrays
abbrev pub Overlap : List Logic → List Logic → Type 0
Overlap xs ys = (length xs ≡ length ys) × (match_all One xs ys ≡ One)

-- the elements of each choice
abbrev pub patterns_of : List Pattern → List (List Logic)
patterns_of choices = map (λ choice. choice.elements.items) choices

-- the choice at k overlaps an earlier one
abbrev pub OverlapsEarlier : List (List Logic) → ℕ → Type 0
OverlapsEarlier patterns k = (j : ℕ) × (j < k) × (k < length patterns) × Overlap (slice_index_or patterns j []) (slice_index_or patterns k [])

-- two choices overlap
abbrev pub AreOverlapping : List (List Logic) → Type 0
AreOverlapping patterns = (k : ℕ) × OverlapsEarlier patterns k

-- the choice at k is the first that overlaps an earlier one
abbrev pub IsFirstOverlapping : List (List Logic) → ℕ → Type 0
IsFirstOverlapping patterns k = OverlapsEarlier patterns k × ((i : ℕ) → i < k → ¬ OverlapsEarlier patterns i)
