-- The longest token that stands first, by its first byte. (IEEE 1076, lexical elements: identifiers, abstract literals,
-- character literals, string literals, bit string literals, delimiters.)
use Rattle.std.specs.Prelude.{ℕ, ◌+◌, ◌-◌, ◌<◌, ◌≤◌, Bool, true, false, ◌&&◌, ◌||◌, ◌==◌, nat_le, List, [], ◌∷◌, ◌++◌, length, take, drop, slice_range, replicate, decimal, Option, Some, None, if◌then◌else◌}
use Rattle.vd_trees.specs.declared.revision.Revision.{Revision}
use Rattle.vd_trees.specs.declared.revision.Revision.TheVariants.{V2019, V1993}
use Rattle.vd_trees.specs.Identifiers.{is_letter, lowered, place_among}
use Rattle.vd_trees.specs.Words.{reserved_words}
use Rattle.vd_tokens.specs.declared.kinds.Kind.{Kind}
use Rattle.vd_tokens.specs.declared.kinds.Kind.TheVariants as kind
use Rattle.vd_tokens.specs.Marks.{marks}
use Rattle.vd_tokens.specs.Spellings.{is_digit, is_graphic}
use Rattle.vd_literals.specs.declared.quoted.Before.TheVariants.{Start}
use Rattle.vd_literals.specs.declared.bits.BitsForm.{BitsForm}
use Rattle.vd_literals.specs.declared.bits.BitsForm.TheVariants as bits
use Rattle.vd_literals.specs.declared.numbers.NumberItem.{NumberItem}
use Rattle.vd_literals.specs.declared.numbers.NumberItem.TheVariants as number
use Rattle.vd_literals.specs.Runs.{more_length, run_length}
use Rattle.vd_literals.specs.Values.{value_of, bounded}
use Rattle.vd_literals.specs.Numbers.{number_at}
use Rattle.vd_literals.specs.Quoted.{begins_with, marks_end, undoubled}
use Rattle.vd_literals.specs.Bits.{bits_form, bits_text}
use Rattle.vd_lex.specs.declared.items.First.{First}
use Rattle.vd_lex.specs.declared.items.First.TheVariants as first
use Rattle.vd_lex.specs.declared.items.Found.{Found}
use Rattle.vd_lex.specs.declared.items.Found.TheVariants.{Taken, Wrong}

-- what stands first: so many bytes are a token of this kind and text; or a rule is broken, by a token of this kind if it is one
pub data Item : Type 0 where
  token : (n : ℕ) → (k : Kind) → (text : List ℕ) → Item
  broken : (k : Option Kind) → (rule : ℕ) → Item

-- ---- names

abbrev pub name_item : ℕ → List ℕ → Option ℕ → Item
name_item n text None = token n kind.Name (lowered text)
name_item n text (Some word) = token n (kind.Word word) []

-- a letter, and what goes on with it. With an underscore (95) behind that it is no name
abbrev pub word_item : Revision → ℕ → List ℕ → Item
word_item r n text =
    if begins_with 95 (drop n text) then broken None 103
    else name_item n (take n text) (place_among (reserved_words r) (lowered (take n text)))

-- ---- numbers and bits

abbrev pub number_item : NumberItem → Item
number_item (number.Whole n value) = token n kind.Number (decimal value)
number_item number.OutOfRange = broken (Some kind.Number) 104
number_item number.Real = broken None 105

abbrev pub bits_item : ℕ → Option (List ℕ) → Item
bits_item n None = broken None 106
bits_item n (Some text) = token n kind.Bits text

-- bits with this length or none; or else what stands there if there are none
abbrev pub bits_or : Revision → List ℕ → Option ℕ → Item → BitsForm → Item
bits_or r text size other bits.Absent = other
bits_or r text size other bits.Unended = broken None 102
bits_or r text size other (bits.Whole sign width start end) =
    bits_item (end + 1) (bits_text r sign width size (undoubled (slice_range text start end)))

-- bits with a length of these digits
abbrev pub sized_or : Revision → List ℕ → Option ℕ → Item → BitsForm → Item
sized_or r text size other bits.Absent = other
sized_or r text size other bits.Unended = broken None 102
sized_or r text None other (bits.Whole sign width start end) = broken None 104
sized_or r text (Some n) other (bits.Whole sign width start end) =
    bits_item (end + 1) (bits_text r sign width (Some n) (undoubled (slice_range text start end)))

abbrev pub letter_item : Revision → List ℕ → Item
letter_item r text = bits_or r text None (word_item r (1 + more_length true (drop 1 text)) text) (bits_form r 0 text)

-- revision 1993 has no bits with a length
abbrev pub digit_item : Revision → List ℕ → Item
digit_item V1993 text = number_item (number_at text)
digit_item V2019 text =
    sized_or V2019 text (bounded (value_of 10 (take (run_length false text) text))) (number_item (number_at text))
    (bits_form V2019 (run_length false text) text)

-- ---- texts in marks, and letters

abbrev pub quoted_item : List ℕ → Option ℕ → Item
quoted_item bs None = broken None 102
quoted_item bs (Some n) = token (1 + n) kind.Quoted (undoubled (take (n - 1) bs))

-- a character and an apostrophe (39)
abbrev pub character_item : List ℕ → Item
character_item [] = broken None 102
character_item (b ∷ []) = broken None 102
character_item (b ∷ c ∷ cs) = if is_graphic b && c == 39 then token 3 kind.Letter (b ∷ []) else broken None 102

-- behind a name, a ')', a letter or a text in marks an apostrophe is the mark
abbrev pub has_attribute : Option Kind → Bool
has_attribute None = false
has_attribute (Some kind.Name) = true
has_attribute (Some kind.Letter) = true
has_attribute (Some kind.Quoted) = true
has_attribute (Some (kind.Mark n)) = n == 3
has_attribute (Some _) = false

abbrev pub apostrophe_item : Option Kind → List ℕ → Item
apostrophe_item last bs = if has_attribute last then token 1 (kind.Mark 1) [] else character_item bs

-- ---- marks

abbrev pub mark_front : Revision → ℕ → List ℕ → Option ℕ
mark_front r n text = if nat_le n (length text) then place_among (marks r) (take n text) else None

abbrev pub mark_or : ℕ → Item → Option ℕ → Item
mark_or n other None = other
mark_or n other (Some k) = token n (kind.Mark k) []

-- the longest mark
abbrev pub mark_item : Revision → List ℕ → Item
mark_item r text =
    mark_or 3 (mark_or 2 (mark_or 1 (broken None 101) (mark_front r 1 text)) (mark_front r 2 text)) (mark_front r 3 text)

-- two '<' (60) or two '>' (62)
abbrev pub are_angles : ℕ → List ℕ → Bool
are_angles b bs = (b == 60 && begins_with 60 bs) || (b == 62 && begins_with 62 bs)

abbrev pub other_item : Revision → ℕ → List ℕ → Item
other_item r b bs = if are_angles b bs then broken None 107 else mark_item r (b ∷ bs)

-- ---- by the first byte

abbrev pub first_of : ℕ → First
first_of b =
    if is_letter b then first.Letter
    else (if is_digit b then first.Digit
    else (if b == 95 then first.Underscore
    else (if b == 34 then first.Quotation else (if b == 39 then first.Apostrophe else (if b == 92 then first.Backslash else first.Other)))))

abbrev pub item_by : Revision → Option Kind → ℕ → List ℕ → First → Item
item_by r last b bs first.Letter = letter_item r (b ∷ bs)
item_by r last b bs first.Digit = digit_item r (b ∷ bs)
item_by r last b bs first.Underscore = broken None 103
item_by r last b bs first.Quotation = quoted_item bs (marks_end false Start bs)
item_by r last b bs first.Apostrophe = apostrophe_item last bs
item_by r last b bs first.Backslash = broken None 107
item_by r last b bs first.Other = other_item r b bs

-- what stands first in a text, behind this token
abbrev pub item_at : Revision → Option Kind → List ℕ → Item
item_at r last [] = broken None 101
item_at r last (b ∷ bs) = item_by r last b bs (first_of b)

-- ---- as the code holds it: the text is a part of a buffer, behind so many equal bytes

abbrev pub item_of : List ℕ → Found → Item
item_of buffer (Taken n k count fill from) = token n k (replicate count fill ++ drop from buffer)
item_of buffer (Wrong k rule) = broken k rule

-- the token ends within a text of so many bytes, and isn't empty; its text's part stands within the buffer
abbrev pub FoundFits : ℕ → ℕ → Found → Type 0
FoundFits size room (Taken n k count fill from) = (0 < n) × (n ≤ size) × (from ≤ room)
FoundFits size room (Wrong k rule) = Unit {0}
