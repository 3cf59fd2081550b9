-- What tells of two choices of a matching case statement whether they overlap: '-' matches every value, a value that stands for a bit
-- matches those that stand for the same bit, and other values match '-' alone.
use Rattle.std.specs.Prelude.{◌==◌, ◌&&◌, ◌++◌, Bool, true, false, not, if◌then◌else◌, List, [], ◌∷◌, map, length, Vec}
use Rattle.std.specs.Global.{Global}
use mathlib.Core.Bool.{beq}
use lib.Pointwise.{pointwise}
use Rattle.std.specs.List.{list_all, list_any}
use denote.Ref.{Bor}
use Rattle.vd_values.specs.declared.logic.Logic.{Logic}
use Rattle.vd_values.specs.declared.logic.Logic.TheVariants.{Zero, One, L, H, Dash}
use Rattle.vd_values.specs.Matching.{condition_of}
use Rattle.vd_choices.specs.declared.patterns.Pattern.{Pattern}
use Rattle.vd_choices.specs.Patterns.{match_all}

-- whether two arrays of one length match
abbrev pub overlap : List Logic → List Logic → Bool
overlap xs ys = (length xs == length ys) && condition_of (match_all One xs ys)

abbrev pub is_dash : Logic → Bool
is_dash Dash = true
is_dash _ = false

-- '0', '1', 'L' and 'H' stand for bits
abbrev pub is_bit : Logic → Bool
is_bit Zero = true
is_bit One = true
is_bit L = true
is_bit H = true
is_bit _ = false

abbrev pub has_dash : List Logic → Bool
has_dash xs = list_any is_dash xs

abbrev pub are_bits : List Logic → Bool
are_bits xs = list_all is_bit xs

-- the bits that values stand for
abbrev pub bits_of : List Logic → List Bool
bits_of xs = map condition_of xs

-- whether one of the choices matches an array
abbrev pub overlaps_choice : List Pattern → List Logic → Bool
overlaps_choice choices xs = list_any (λ choice. overlap choice.elements.items xs) choices

-- whether one of the borrowed arrays matches an array
abbrev pub overlaps_borrowed : List (Bor (List Logic)) → List Logic → Bool
overlaps_borrowed arrays xs = list_any (λ array. overlap array.now xs) arrays

-- the bits of the keys of a set
abbrev pub keys_of : List (Vec Bool Global) → List (List Bool)
keys_of keys = map (λ key. key.items) keys

abbrev pub has_bits : List (List Bool) → List Bool → Bool
has_bits keys bits = list_any (λ key. pointwise beq bits key) keys

-- the keys with the bits that an array stands for, where it stands for some
abbrev pub with_bits : List Logic → List (List Bool) → List (List Bool)
with_bits xs keys = if are_bits xs && not (has_bits keys (bits_of xs)) then keys ++ bits_of xs ∷ [] else keys
