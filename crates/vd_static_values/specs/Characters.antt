-- The places of characters among the literals of a type, in a table by their codes. (IEEE 1076, string literals.)
use Rattle.std.specs.Prelude.{List, None, Ok, Option, Some, bytes_eq, false, if◌then◌else◌, length, slice_index_or, ℕ, ◌<◌, ◌≡◌}
use Rattle.vd_environments.specs.Got.{Got}
use Rattle.vd_meaning.specs.Literals.{character, position_from}
use Rattle.vd_plain_values.specs.Strings.{place_found}

-- the code of the character that a literal is
abbrev pub IsCharacter : List ℕ → Option ℕ → Type 0
IsCharacter text None = (c : ℕ) → bytes_eq text (character c) ≡ false
IsCharacter text (Some c) = text ≡ character c

-- the place that a table has, or else that further on
abbrev pub place_or : Option ℕ → Got ℕ → Got ℕ
place_or None further = further
place_or (Some n) further = Ok n

abbrev pub place_in : List (Option ℕ) → ℕ → Option ℕ
place_in table c = slice_index_or table c None

abbrev pub literal_or : List ℕ → ℕ → ℕ → Got ℕ → Got ℕ
literal_or text place c further = if bytes_eq text (character c) then Ok place else further

-- the table with a literal at its place, where it has no other one for its character
pub record IsEntered (old new : List (Option ℕ)) (text : List ℕ) (place : ℕ) : Type 0 where
  pub size : length new ≡ length old
  pub places : (c : ℕ) → c < 256 → (further : Got ℕ) → place_or (place_in new c) further ≡ place_or (place_in old c) (literal_or text place c further)

pub record HasCharacters (table : List (Option ℕ)) (literals : List (List ℕ)) : Type 0 where
  pub size : length table ≡ 256
  pub places : (c : ℕ) → c < 256 → place_found (place_in table c) ≡ position_from 0 literals (character c)
