-- Bit string literals: in revision 2019 a length or none; a base, in 2019 with a sign or none; and a text in marks in which single
-- underscores may stand between characters. (IEEE 1076, bit string literals.)
use Rattle.std.specs.Prelude.{ℕ, zero, suc, ◌<◌, ◌≤◌, ◌+◌, ◌-◌, ◌*◌, ◌/◌, ◌%◌, ◌^◌, Bool, true, false, not, ◌&&◌, ◌||◌, ◌==◌, nat_lt, List, [], ◌∷◌, ◌++◌, length, take, drop, slice_range, replicate, filter, Option, Some, None, if◌then◌else◌}
use Rattle.std.specs.List.{list_all, flat_map}
use Rattle.std.specs.Char.{digit_value}
use Rattle.vd_trees.specs.declared.revision.Revision.{Revision}
use Rattle.vd_trees.specs.declared.revision.Revision.TheVariants.{V2019, V1993}
use Rattle.vd_literals.specs.declared.quoted.Before.TheVariants.{Start}
use Rattle.vd_literals.specs.declared.bits.Sign.{Sign}
use Rattle.vd_literals.specs.declared.bits.Sign.TheVariants.{Plain, Unsigned, Signed}
use Rattle.vd_literals.specs.declared.bits.Base.{Base}
use Rattle.vd_literals.specs.declared.bits.BitsForm.{BitsForm}
use Rattle.vd_literals.specs.declared.bits.BitsForm.TheVariants.{Absent, Unended, Whole}
use Rattle.vd_literals.specs.Quoted.{marks_end}

-- ---- the base

abbrev pub is_either : ℕ → ℕ → ℕ → Bool
is_either upper lower b = b == upper || b == lower

-- how many elements a character of the base 'B', 'O' or 'X' gives
abbrev pub width_of : ℕ → Option ℕ
width_of b =
    if is_either 66 98 b then Some 1 else (if is_either 79 111 b then Some 3 else (if is_either 88 120 b then Some 4 else None))

abbrev pub base_with : Sign → ℕ → Option ℕ → Option Base
base_with sign letters None = None
base_with sign letters (Some width) = Some (record { sign = sign; width = width; letters = letters })

-- a base of one letter. The base 'D' is known, and isn't in the profile: its width is given as 0
abbrev pub plain_base : ℕ → Option Base
plain_base b = base_with Plain 1 (if is_either 68 100 b then Some 0 else width_of b)

-- a base behind the letter 'U' or 'S'
abbrev pub signed_base : ℕ → ℕ → Option Base
signed_base s b =
    if is_either 85 117 s then base_with Unsigned 2 (width_of b)
    else (if is_either 83 115 s then base_with Signed 2 (width_of b) else None)

-- a base of two letters, if a mark (34) stands behind it and the revision has such a one
abbrev pub longer_base : Revision → ℕ → ℕ → List ℕ → Option Base
longer_base V2019 s b [] = None
longer_base V2019 s b (c ∷ cs) = if c == 34 then signed_base s b else None
longer_base V1993 s b cs = None

-- the base that stands first, with a mark behind it
abbrev pub base_at : Revision → List ℕ → Option Base
base_at r [] = None
base_at r (b ∷ []) = None
base_at r (b ∷ c ∷ cs) = if c == 34 then plain_base b else longer_base r b c cs

-- ---- the form

-- with a base whose mark stands in front of these bytes, behind n bytes
abbrev pub form_with : Sign → ℕ → ℕ → List ℕ → BitsForm
form_with sign width start bs =
    elim (marks_end true Start bs) [
      | Some n ↦ Whole sign width start (start + n - 1)
      | None ↦ elim (marks_end false Start bs) [ Some n ↦ Absent | None ↦ Unended ]
    ]

abbrev pub form_from : List ℕ → ℕ → Option Base → BitsForm
form_from text n None = Absent
form_from text n (Some base) = form_with base.sign base.width (n + base.letters + 1) (drop (n + base.letters + 1) text)

-- the bits that stand first, with a length of n bytes. A base, and then a text in marks with an underscore that mustn't stand there,
-- is a name and a text in marks
abbrev pub bits_form : Revision → ℕ → List ℕ → BitsForm
bits_form r n text = form_from text n (base_at r (drop n text))

-- ---- the elements

-- the last so many binary digits of a number
abbrev pub binary : ℕ → ℕ → List ℕ
binary zero n = []
binary (suc k) n = (48 + n / 2 ^ k % 2) ∷ binary k n

abbrev pub is_digit_in : ℕ → ℕ → Bool
is_digit_in width b = nat_lt (digit_value b) (2 ^ width)

-- a digit of the base gives its binary digits, and every other character itself as often
abbrev pub elements_of : ℕ → ℕ → List ℕ
elements_of width b = if is_digit_in width b then binary width (digit_value b) else replicate width b

abbrev pub is_element : ℕ → Bool
is_element b = not (b == 95)

abbrev pub elements : ℕ → List ℕ → List ℕ
elements width chars = flat_map (elements_of width) (filter is_element chars)

-- revision 1993 has digits of the base alone
abbrev pub is_taken : Revision → ℕ → ℕ → Bool
is_taken V2019 width b = true
is_taken V1993 width b = b == 95 || is_digit_in width b

-- ---- the length

-- where a text gets longer, a signed one repeats its first element, and every other one gets '0' (48). An empty text has no first
abbrev pub padded : Sign → ℕ → List ℕ → Option (List ℕ)
padded Signed k [] = None
padded Signed k (e ∷ es) = Some (replicate k e ++ e ∷ es)
padded Plain k es = Some (replicate k 48 ++ es)
padded Unsigned k es = Some (replicate k 48 ++ es)

-- where it gets shorter, what is cut of a signed one equals the first element that stays, and of every other one is '0'
abbrev pub is_cut_of : Sign → List ℕ → List ℕ → Bool
is_cut_of Signed gone [] = false
is_cut_of Signed gone (e ∷ es) = list_all (λ g. g == e) gone
is_cut_of Plain gone rest = list_all (λ g. g == 48) gone
is_cut_of Unsigned gone rest = list_all (λ g. g == 48) gone

abbrev pub cut : Sign → ℕ → List ℕ → Option (List ℕ)
cut sign k es = if is_cut_of sign (take k es) (drop k es) then Some (drop k es) else None

abbrev pub sized : Sign → Option ℕ → List ℕ → Option (List ℕ)
sized sign None es = Some es
sized sign (Some n) es =
    if nat_lt (length es) n then padded sign (n - length es) es
    else (if nat_lt n (length es) then cut sign (length es - n) es else Some es)

-- the text of bits, if they have one
abbrev pub bits_text : Revision → Sign → ℕ → Option ℕ → List ℕ → Option (List ℕ)
bits_text r sign width size chars =
    if nat_lt 0 width && list_all (is_taken r width) chars then sized sign size (elements width chars) else None

-- ---- the text stands within a text of n bytes, with its last mark

abbrev pub BitsFit : ℕ → BitsForm → Type 0
BitsFit n Absent = Unit {0}
BitsFit n Unended = Unit {0}
BitsFit n (Whole sign width start end) = (start ≤ end) × (end < n) × (0 < start) × (width ≤ 4)
