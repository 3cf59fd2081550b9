-- Identifiers. (IEEE 1076, lexical elements: a letter, and behind it letters, digits and single underscores; letters are
-- the same in either case.)
use Rattle.std.specs.Prelude.{ℕ, ◌+◌, Bool, true, false, ◌&&◌, ◌||◌, ◌==◌, nat_le, List, [], ◌∷◌, map, position, Option, is_none, if◌then◌else◌}
use Rattle.std.specs.Str.{bytes_eq}
use Rattle.vd_trees.specs.declared.revision.Revision.{Revision}
use Rattle.vd_trees.specs.Words.{reserved_words}

abbrev pub is_letter : ℕ → Bool
is_letter b = (nat_le 65 b && nat_le b 90) || (nat_le 97 b && nat_le b 122)

abbrev pub is_letter_or_digit : ℕ → Bool
is_letter_or_digit b = is_letter b || (nat_le 48 b && nat_le b 57)

abbrev pub starts_with_letter_or_digit : List ℕ → Bool
starts_with_letter_or_digit [] = false
starts_with_letter_or_digit (b ∷ bs) = is_letter_or_digit b

-- letters, digits and single underscores (95), each underscore before a letter or a digit
abbrev pub is_name_rest : List ℕ → Bool
is_name_rest [] = true
is_name_rest (b ∷ bs) = (is_letter_or_digit b || (b == 95 && starts_with_letter_or_digit bs)) && is_name_rest bs

-- a letter, and behind it letters, digits and single underscores, none at the end
abbrev pub is_name : List ℕ → Bool
is_name [] = false
is_name (b ∷ bs) = is_letter b && is_name_rest bs

abbrev pub lower : ℕ → ℕ
lower b = if nat_le 65 b && nat_le b 90 then b + 32 else b

abbrev pub lowered : List ℕ → List ℕ
lowered bs = map lower bs

-- the place of a text among some texts, if it is one of them
abbrev pub place_among : List (List ℕ) → List ℕ → Option ℕ
place_among texts text = position (λ t. bytes_eq text t) texts

-- the text of an identifier, as trees and tokens hold it: a name in lower case that is no reserved word
abbrev pub is_identifier : Revision → List ℕ → Bool
is_identifier r text = is_name text && (bytes_eq (lowered text) text && is_none (place_among (reserved_words r) text))
