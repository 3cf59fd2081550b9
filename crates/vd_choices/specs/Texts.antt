-- IEEE 1076, case statement and selected signal assignment, choices of an array of known length: each choice is a text of elements, and
-- no text is given twice. Elements are counted by their positions.
use Rattle.std.specs.Prelude.{◌≡◌, ℕ, ◌<◌, List, [], ◌∷◌, map, length, slice_index_or}
use Rattle.std.specs.List.{Contains}
use Rattle.vd_choices.specs.declared.intervals.Interval.{Interval}
use Rattle.vd_choices.specs.declared.texts.Text.{Text}
use Rattle.vd_choices.specs.Intervals.{Has}

-- the positions of the elements of each choice
abbrev pub texts_of : List Text → List (List ℕ)
texts_of choices = map (λ choice. choice.positions.items) choices

-- the text at k stands earlier too
abbrev pub StandsEarlier : List (List ℕ) → ℕ → Type 0
StandsEarlier texts k = (j : ℕ) × (j < k) × (k < length texts) × (slice_index_or texts j [] ≡ slice_index_or texts k [])

-- some text stands twice
abbrev pub IsRepeatedText : List (List ℕ) → Type 0
IsRepeatedText texts = (k : ℕ) × StandsEarlier texts k

-- the text at k is the first that stands earlier too
abbrev pub IsFirstRepeatedText : List (List ℕ) → ℕ → Type 0
IsFirstRepeatedText texts k = StandsEarlier texts k × ((i : ℕ) → i < k → ¬ StandsEarlier texts i)

-- each element of the text is within the interval
abbrev pub IsWithin : Interval → List ℕ → Type 0
IsWithin within [] = Unit {0}
IsWithin within (value ∷ values) = Has within value × IsWithin within values

-- each text of so many elements within the interval is a choice
abbrev pub AreTextsCovered : Interval → ℕ → List (List ℕ) → Type 0
AreTextsCovered within count texts = (text : List ℕ) → length text ≡ count → IsWithin within text → Contains texts text
