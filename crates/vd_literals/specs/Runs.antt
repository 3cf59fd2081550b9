-- Digits and letters with single underscores between them: names, the digits of numbers, exponents and bases.
-- (IEEE 1076, lexical elements: an underline stands only between two letters or digits.)
use Rattle.std.specs.Prelude.{ℕ, ◌+◌, Bool, false, ◌&&◌, ◌||◌, ◌==◌, List, [], ◌∷◌, if◌then◌else◌}
use Rattle.vd_trees.specs.Identifiers.{is_letter}
use Rattle.vd_tokens.specs.Spellings.{is_digit}

-- a digit, or a letter where letters count
abbrev pub is_part : Bool → ℕ → Bool
is_part letters b = is_digit b || (letters && is_letter b)

abbrev pub starts_with_part : Bool → List ℕ → Bool
starts_with_part letters [] = false
starts_with_part letters (b ∷ bs) = is_part letters b

-- the first byte goes on with a run whose first characters stand before it: a part, or an underscore (95) before a part
abbrev pub goes_on : Bool → List ℕ → Bool
goes_on letters [] = false
goes_on letters (b ∷ bs) = is_part letters b || (b == 95 && starts_with_part letters bs)

-- how many bytes go on with such a run
abbrev pub more_length : Bool → List ℕ → ℕ
more_length letters [] = 0
more_length letters (b ∷ bs) = if goes_on letters (b ∷ bs) then 1 + more_length letters bs else 0

-- how long the run is that stands first
abbrev pub run_length : Bool → List ℕ → ℕ
run_length letters [] = 0
run_length letters (b ∷ bs) = if is_part letters b then 1 + more_length letters bs else 0
