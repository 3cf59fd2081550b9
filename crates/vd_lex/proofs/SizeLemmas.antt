-- Each step reads something.
use Rattle.std.proofs.Common.{◌≡◌, ℕ, ◌+◌, ◌<◌, Bool, true, false, cond, eqb, ◌&&◌, ◌||◌, List, [], ◌∷◌, length, take, drop, Option, Some, None, refl, sym, subst, arith}
use Rattle.std.proofs.lemmas.Bool.{cond_both}
use Rattle.std.specs.Prelude.{slice_range}
use Rattle.vd_bytes.specs.declared.places.Place.{Place}
use Rattle.vd_trees.specs.declared.revision.Revision.{Revision}
use Rattle.vd_trees.specs.declared.revision.Revision.TheVariants.{V2019, V1993}
use Rattle.vd_trees.specs.Identifiers.{is_letter, lowered, place_among}
use Rattle.vd_trees.specs.Words.{reserved_words}
use Rattle.vd_tokens.specs.Spellings.{is_digit, is_graphic}
use Rattle.vd_tokens.specs.declared.kinds.Kind.{Kind}
use Rattle.vd_tokens.specs.declared.kinds.Kind.TheVariants as kind
use Rattle.vd_literals.specs.declared.bits.BitsForm.{BitsForm}
use Rattle.vd_literals.specs.declared.bits.BitsForm.TheVariants as bits
use Rattle.vd_literals.specs.declared.numbers.NumberItem.{NumberItem}
use Rattle.vd_literals.specs.declared.numbers.NumberItem.TheVariants as number
use Rattle.vd_literals.specs.declared.numbers.NumberForm.{NumberForm}
use Rattle.vd_literals.specs.declared.numbers.NumberForm.TheVariants as form
use Rattle.vd_literals.specs.declared.numbers.Exponent.{Exponent}
use Rattle.vd_literals.specs.declared.numbers.Exponent.TheVariants as exponent
use Rattle.vd_literals.specs.Runs.{run_length, more_length}
use Rattle.vd_literals.specs.Quoted.{begins_with, marks_end, undoubled}
use Rattle.vd_literals.specs.Bits.{bits_text, bits_form}
use Rattle.vd_literals.specs.Values.{bounded, value_of}
use Rattle.vd_literals.specs.Numbers.{plain, is_fraction, closed, based, form_behind, number_form, item_of, number_value, with_exponent, with_form, number_at, exponent_at}
use Rattle.vd_literals.specs.declared.quoted.Before.TheVariants.{Start}
use Rattle.vd_lex.specs.declared.items.First.TheVariants as first
use Rattle.vd_lex.specs.declared.states.State.{State}
use Rattle.vd_lex.specs.Items.{Item, token, broken, name_item, word_item, number_item, bits_item, bits_or, sized_or, letter_item, digit_item, quoted_item, character_item, apostrophe_item, has_attribute, mark_or, mark_item, mark_front, other_item, are_angles, first_of, item_by, item_at}
use Rattle.vd_lex.specs.Pieces.{Piece, passes, reads, refuses, checked, is_too_near, outside, inside, piece_by, piece_at, is_spacing, begins_line_comment, begins_comment, ends_comment, without_near, with_comment}

-- ---- numbers

abbrev FormSome : NumberForm → Type 0
FormSome form.Real = Unit {0}
FormSome (form.Whole base start end behind) = 0 < behind

abbrev NumberSome : NumberItem → Type 0
NumberSome (number.Whole n v) = 0 < n
NumberSome number.OutOfRange = Unit {0}
NumberSome number.Real = Unit {0}

closed_some : (n m : ℕ) (bs : List ℕ) → 0 < n → FormSome (closed n m bs)
closed_some n m [] h = h
closed_some n m (b ∷ bs) h =
    cond_both (eqb b 35) (form.Whole n (n + 1) (n + 1 + m) (n + 2 + m)) (cond (eqb b 46) (cond (is_fraction bs) form.Real (plain n)) (plain n)) FormSome (λ t. (let e : 0 < n + 2 + m = omega arith in e))
    (λ t. cond_both (eqb b 46) (cond (is_fraction bs) form.Real (plain n)) (plain n) FormSome (λ u. cond_both (is_fraction bs) form.Real (plain n) FormSome (λ v. tt) (λ v. h)) (λ u. h))

based_some : (n : ℕ) (bs : List ℕ) → 0 < n → FormSome (based n bs)
based_some n bs h = cond_both (eqb (run_length true bs) 0) (plain n) (closed n (run_length true bs) (drop (run_length true bs) bs)) FormSome (λ t. h) (λ t. closed_some n (run_length true bs) (drop (run_length true bs) bs) h)

form_some : (n : ℕ) (bs : List ℕ) → 0 < n → FormSome (form_behind n bs)
form_some n [] h = h
form_some n (b ∷ bs) h =
    cond_both (eqb b 35) (based n bs) (cond (eqb b 46) (cond (eqb (run_length false bs) 0) (plain n) form.Real) (plain n)) FormSome (λ t. based_some n bs h)
    (λ t. cond_both (eqb b 46) (cond (eqb (run_length false bs) 0) (plain n) form.Real) (plain n) FormSome (λ u. cond_both (eqb (run_length false bs) 0) (plain n) form.Real FormSome (λ v. h) (λ v. tt)) (λ u. h))

item_some : (n : ℕ) (o : Option ℕ) → 0 < n → NumberSome (item_of n o)
item_some n None h = tt
item_some n (Some v) h = h

exponent_some : (text : List ℕ) (base start end behind : ℕ) (e : Exponent) → 0 < behind → NumberSome (with_exponent text base start end behind e)
exponent_some text base start end behind exponent.Absent h = item_some behind (number_value (take base text) (slice_range text start end) []) h
exponent_some text base start end behind (exponent.Positive first last) h =
    item_some (behind + last) (number_value (take base text) (slice_range text start end) (slice_range (drop behind text) first last)) (omega arith)
exponent_some text base start end behind exponent.Negative h = tt

with_form_some : (text : List ℕ) (f : NumberForm) → FormSome f → NumberSome (with_form text f)
with_form_some text form.Real h = tt
with_form_some text (form.Whole base start end behind) h = exponent_some text base start end behind (exponent_at (drop behind text)) h

digit_run : (b : ℕ) (bs : List ℕ) → is_digit b ≡ true → 0 < run_length false (b ∷ bs)
digit_run b bs e = subst (λ t. 0 < cond (t || false) (1 + more_length false bs) 0) (sym e) (omega arith)

number_some : (b : ℕ) (bs : List ℕ) → is_digit b ≡ true → NumberSome (number_at (b ∷ bs))
number_some b bs e = with_form_some (b ∷ bs) (number_form (b ∷ bs)) (form_some (run_length false (b ∷ bs)) (drop (run_length false (b ∷ bs)) (b ∷ bs)) (digit_run b bs e))

-- ---- items

abbrev ItemSome : Item → Type 0
ItemSome (token n k text) = 0 < n
ItemSome (broken k rule) = Unit {0}

name_some : (n : ℕ) (text : List ℕ) (o : Option ℕ) → 0 < n → ItemSome (name_item n text o)
name_some n text None h = h
name_some n text (Some w) h = h

word_some : (r : Revision) (n : ℕ) (text : List ℕ) → 0 < n → ItemSome (word_item r n text)
word_some r n text h =
    cond_both (begins_with 95 (drop n text)) (broken None 103) (name_item n (take n text) (place_among (reserved_words r) (lowered (take n text)))) ItemSome (λ t. tt)
    (λ t. name_some n (take n text) (place_among (reserved_words r) (lowered (take n text))) h)

number_item_some : (i : NumberItem) → NumberSome i → ItemSome (number_item i)
number_item_some (number.Whole n v) h = h
number_item_some number.OutOfRange h = tt
number_item_some number.Real h = tt

bits_some : (n : ℕ) (o : Option (List ℕ)) → ItemSome (bits_item (n + 1) o)
bits_some n None = tt
bits_some n (Some text) = omega arith

bits_or_some : (r : Revision) (text : List ℕ) (size : Option ℕ) (other : Item) (f : BitsForm) → ItemSome other → ItemSome (bits_or r text size other f)
bits_or_some r text size other bits.Absent h = h
bits_or_some r text size other bits.Unended h = tt
bits_or_some r text size other (bits.Whole sign width start end) h = bits_some end (bits_text r sign width size (undoubled (slice_range text start end)))

sized_or_some : (r : Revision) (text : List ℕ) (size : Option ℕ) (other : Item) (f : BitsForm) → ItemSome other → ItemSome (sized_or r text size other f)
sized_or_some r text size other bits.Absent h = h
sized_or_some r text size other bits.Unended h = tt
sized_or_some r text None other (bits.Whole sign width start end) h = tt
sized_or_some r text (Some n) other (bits.Whole sign width start end) h = bits_some end (bits_text r sign width (Some n) (undoubled (slice_range text start end)))

letter_some : (r : Revision) (text : List ℕ) → ItemSome (letter_item r text)
letter_some r text = bits_or_some r text None (word_item r (1 + more_length true (drop 1 text)) text) (bits_form r 0 text) (word_some r (1 + more_length true (drop 1 text)) text (omega arith))

digit_some : (r : Revision) (b : ℕ) (bs : List ℕ) → is_digit b ≡ true → ItemSome (digit_item r (b ∷ bs))
digit_some V1993 b bs e = number_item_some (number_at (b ∷ bs)) (number_some b bs e)
digit_some V2019 b bs e =
    sized_or_some V2019 (b ∷ bs) (bounded (value_of 10 (take (run_length false (b ∷ bs)) (b ∷ bs)))) (number_item (number_at (b ∷ bs))) (bits_form V2019 (run_length false (b ∷ bs)) (b ∷ bs))
    (number_item_some (number_at (b ∷ bs)) (number_some b bs e))

quoted_some : (bs : List ℕ) (o : Option ℕ) → ItemSome (quoted_item bs o)
quoted_some bs None = tt
quoted_some bs (Some n) = omega arith

character_some : (bs : List ℕ) → ItemSome (character_item bs)
character_some [] = tt
character_some (b ∷ []) = tt
character_some (b ∷ c ∷ cs) = cond_both (is_graphic b && eqb c 39) (token 3 kind.Letter (b ∷ [])) (broken None 102) ItemSome (λ t. (let e : 0 < 3 = omega arith in e)) (λ t. tt)

mark_or_some : (n : ℕ) (other : Item) (o : Option ℕ) → 0 < n → ItemSome other → ItemSome (mark_or n other o)
mark_or_some n other None h k = k
mark_or_some n other (Some m) h k = h

mark_some : (r : Revision) (text : List ℕ) → ItemSome (mark_item r text)
mark_some r text =
    mark_or_some 3 (mark_or 2 (mark_or 1 (broken None 101) (mark_front r 1 text)) (mark_front r 2 text)) (mark_front r 3 text) (omega arith)
    (mark_or_some 2 (mark_or 1 (broken None 101) (mark_front r 1 text)) (mark_front r 2 text) (omega arith)
    (mark_or_some 1 (broken None 101) (mark_front r 1 text) (omega arith) tt))

other_some : (r : Revision) (b : ℕ) (bs : List ℕ) → ItemSome (other_item r b bs)
other_some r b bs = cond_both (are_angles b bs) (broken None 107) (mark_item r (b ∷ bs)) ItemSome (λ t. tt) (λ t. mark_some r (b ∷ bs))

attribute_some : (last : Option Kind) (bs : List ℕ) → ItemSome (apostrophe_item last bs)
attribute_some last bs = cond_both (has_attribute last) (token 1 (kind.Mark 1) []) (character_item bs) ItemSome (λ t. (let e : 0 < 1 = omega arith in e)) (λ t. character_some bs)

module _ (r : Revision) (last : Option Kind) (b : ℕ) (bs : List ℕ) where
  neither_some : is_letter b ≡ false → is_digit b ≡ false → ItemSome (item_by r last b bs (first_of b))
  neither_some l d = rw (l, d) (by (eqb b 95) (eqb b 34) (eqb b 39) (eqb b 92))
    where
      by : (t u v w : Bool) → ItemSome (item_by r last b bs (cond t first.Underscore (cond u first.Quotation (cond v first.Apostrophe (cond w first.Backslash first.Other)))))
      by true u v w = tt
      by false true v w = quoted_some bs (marks_end false Start bs)
      by false false true w = attribute_some last bs
      by false false false true = tt
      by false false false false = other_some r b bs

  any_some : ItemSome (item_by r last b bs (first_of b))
  any_some = by (is_letter b) (is_digit b) refl refl
    where
      by : (t u : Bool) → is_letter b ≡ t → is_digit b ≡ u → ItemSome (item_by r last b bs (first_of b))
      by true u l d = rw (l) (letter_some r (b ∷ bs))
      by false true l d = rw (l, d) (digit_some r b bs d)
      by false false l d = neither_some l d

-- ---- pieces

abbrev pub PieceSome : Piece → Type 0
PieceSome (passes n next) = 0 < n
PieceSome (reads n k text) = 0 < n
PieceSome (refuses rule) = Unit {0}

checked_some : (st : State) (i : Item) → ItemSome i → PieceSome (checked st i)
checked_some st (token n k text) h = cond_both (is_too_near st (Some k)) (refuses 103) (reads n k text) PieceSome (λ t. tt) (λ t. h)
checked_some st (broken k rule) h = cond_both (is_too_near st k) (refuses 103) (refuses rule) PieceSome (λ t. tt) (λ t. tt)

module _ (r : Revision) (st : State) (p : Place) (b : ℕ) (bs : List ℕ) where
  one : 0 < 1
  one = omega arith

  two : 0 < 2
  two = omega arith

  outside_some : PieceSome (outside r st p b bs)
  outside_some =
      cond_both (is_spacing b) (passes 1 (without_near st)) (cond (begins_line_comment b bs) (passes (length (b ∷ bs)) st) (cond (begins_comment r b bs) (passes 2 (with_comment (Some p) st)) (checked st (item_at r st.last (b ∷ bs))))) PieceSome
      (λ t. one)
      (λ t. cond_both (begins_line_comment b bs) (passes (length (b ∷ bs)) st) (cond (begins_comment r b bs) (passes 2 (with_comment (Some p) st)) (checked st (item_at r st.last (b ∷ bs)))) PieceSome
      (λ u. (let e : 0 < length (b ∷ bs) = omega arith in e))
      (λ u. cond_both (begins_comment r b bs) (passes 2 (with_comment (Some p) st)) (checked st (item_at r st.last (b ∷ bs))) PieceSome (λ v. two) (λ v. checked_some st (item_at r st.last (b ∷ bs)) (any_some r st.last b bs))))

  inside_some : PieceSome (inside st b bs)
  inside_some = cond_both (ends_comment b bs) (passes 2 (with_comment None st)) (passes 1 st) PieceSome (λ t. two) (λ t. one)

  by_some : (c : Option Place) → PieceSome (piece_by r st p b bs c)
  by_some None = outside_some
  by_some (Some q) = inside_some

  pub piece_some : PieceSome (piece_at r st p (b ∷ bs))
  piece_some = by_some st.comment
