-- Numbers: digits with single underscores inside, and an exponent; or a base, and digits between two marks '#' (35), and an
-- exponent. A point (46) with a digit behind it, or a negative exponent, makes what stands there real.
-- (IEEE 1076, abstract literals. Real literals aren't in the profile.)
use Rattle.std.specs.Prelude.{ℕ, ◌+◌, ◌*◌, ◌^◌, ◌<◌, ◌≤◌, Bool, true, false, slice_range, ◌&&◌, ◌||◌, ◌==◌, nat_le, nat_lt, List, [], ◌∷◌, take, drop, Option, Some, None, if◌then◌else◌}
use Rattle.std.specs.List.{list_all}
use Rattle.vd_literals.specs.declared.numbers.Exponent.{Exponent}
use Rattle.vd_literals.specs.declared.numbers.Exponent.TheVariants.{Absent, Positive, Negative}
use Rattle.vd_literals.specs.declared.numbers.NumberForm.{NumberForm}
use Rattle.vd_literals.specs.declared.numbers.NumberForm.TheVariants as form
use Rattle.vd_literals.specs.declared.numbers.NumberItem.{NumberItem}
use Rattle.vd_literals.specs.declared.numbers.NumberItem.TheVariants as item
use Rattle.vd_literals.specs.Runs.{run_length}
use Rattle.vd_literals.specs.Values.{value_of, is_below, bounded}

-- ---- exponents: a letter 'E' (69, 101), a sign (43, 45) or none, and digits

abbrev pub exponent_digits : ℕ → List ℕ → Exponent
exponent_digits start bs = if run_length false bs == 0 then Absent else Positive start (start + run_length false bs)

abbrev pub signed_exponent : List ℕ → Exponent
signed_exponent [] = Absent
signed_exponent (b ∷ bs) =
    if b == 43 then exponent_digits 2 bs
    else (if b == 45 then (if run_length false bs == 0 then Absent else Negative) else exponent_digits 1 (b ∷ bs))

abbrev pub exponent_at : List ℕ → Exponent
exponent_at [] = Absent
exponent_at (b ∷ bs) = if b == 69 || b == 101 then signed_exponent bs else Absent

-- ---- where the parts of a number stand

abbrev pub plain : ℕ → NumberForm
plain n = form.Whole 0 0 n n

abbrev pub begins_with_mark : List ℕ → Bool
begins_with_mark [] = false
begins_with_mark (b ∷ bs) = b == 35

-- digits, and then a mark
abbrev pub is_fraction : List ℕ → Bool
is_fraction bs = nat_lt 0 (run_length true bs) && begins_with_mark (drop (run_length true bs) bs)

-- behind a base of n bytes, a mark and m bytes of digits
abbrev pub closed : ℕ → ℕ → List ℕ → NumberForm
closed n m [] = plain n
closed n m (b ∷ bs) =
    if b == 35 then form.Whole n (n + 1) (n + 1 + m) (n + 2 + m)
    else (if b == 46 then (if is_fraction bs then form.Real else plain n) else plain n)

abbrev pub based : ℕ → List ℕ → NumberForm
based n bs = if run_length true bs == 0 then plain n else closed n (run_length true bs) (drop (run_length true bs) bs)

-- behind digits of n bytes
abbrev pub form_behind : ℕ → List ℕ → NumberForm
form_behind n [] = plain n
form_behind n (b ∷ bs) =
    if b == 35 then based n bs else (if b == 46 then (if run_length false bs == 0 then plain n else form.Real) else plain n)

abbrev pub number_form : List ℕ → NumberForm
number_form text = form_behind (run_length false text) (drop (run_length false text) text)

-- ---- what a number is

-- the base that these digits give: ten where there are none
abbrev pub base_of : List ℕ → ℕ
base_of [] = 10
base_of (b ∷ bs) = value_of 10 (b ∷ bs)

abbrev pub is_base : ℕ → Bool
is_base n = nat_le 2 n && nat_le n 16

abbrev pub raised : ℕ → List ℕ → ℕ → Option ℕ
raised base digits exponent =
    if is_base base && list_all (is_below base) digits then bounded (value_of base digits * base ^ exponent) else None

-- the value of a number of these parts, if its base is one, each digit is below it, and the value isn't above the greatest
abbrev pub number_value : List ℕ → List ℕ → List ℕ → Option ℕ
number_value base digits exponent = raised (base_of base) digits (value_of 10 exponent)

abbrev pub item_of : ℕ → Option ℕ → NumberItem
item_of length None = item.OutOfRange
item_of length (Some n) = item.Whole length n

abbrev pub with_exponent : List ℕ → ℕ → ℕ → ℕ → ℕ → Exponent → NumberItem
with_exponent text base start end behind Absent = item_of behind (number_value (take base text) (slice_range text start end) [])
with_exponent text base start end behind (Positive first last) =
    item_of (behind + last) (number_value (take base text) (slice_range text start end) (slice_range (drop behind text) first last))
with_exponent text base start end behind Negative = item.Real

abbrev pub with_form : List ℕ → NumberForm → NumberItem
with_form text form.Real = item.Real
with_form text (form.Whole base start end behind) = with_exponent text base start end behind (exponent_at (drop behind text))

-- the number that stands first in a text that begins with a digit
abbrev pub number_at : List ℕ → NumberItem
number_at text = with_form text (number_form text)

-- ---- the parts stand within a text of n bytes

abbrev pub FormFits : ℕ → NumberForm → Type 0
FormFits n form.Real = Unit {0}
FormFits n (form.Whole base start end behind) = (base ≤ n) × (start ≤ end) × (end ≤ behind) × (behind ≤ n) × (0 < behind)

abbrev pub ExponentFits : ℕ → Exponent → Type 0
ExponentFits n Absent = Unit {0}
ExponentFits n (Positive start end) = (start ≤ end) × (end ≤ n)
ExponentFits n Negative = Unit {0}

abbrev pub NumberFits : ℕ → NumberItem → Type 0
NumberFits size (item.Whole n value) = (0 < n) × (n ≤ size)
NumberFits size item.OutOfRange = Unit {0}
NumberFits size item.Real = Unit {0}
