-- The values of numbers. (IEEE 1076, abstract literals: an underline doesn't count, the letters of a based literal are
-- digits above 9 in either case, and an exponent is a power of the base.)
use Rattle.std.specs.Prelude.{ℕ, ◌+◌, ◌*◌, Bool, ◌||◌, ◌==◌, nat_le, nat_lt, List, [], ◌∷◌, Option, Some, None, if◌then◌else◌}
use Rattle.std.specs.Char.{digit_value}
use Rattle.vd_tokens.specs.Spellings.{greatest_integer}

-- the value of digits behind those that a number stands for, the first first
abbrev pub value_behind : ℕ → ℕ → List ℕ → ℕ
value_behind base n [] = n
value_behind base n (b ∷ bs) = value_behind base (if b == 95 then n else n * base + digit_value b) bs

abbrev pub value_of : ℕ → List ℕ → ℕ
value_of base digits = value_behind base 0 digits

-- the digit is one of the base
abbrev pub is_below : ℕ → ℕ → Bool
is_below base b = b == 95 || nat_lt (digit_value b) base

-- a number that isn't above the greatest
abbrev pub bounded : ℕ → Option ℕ
bounded n = if nat_le n greatest_integer then Some n else None
