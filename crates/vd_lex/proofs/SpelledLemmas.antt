-- A token's bytes are read as that one token, behind any token and in front of what may follow it.
use Rattle.std.proofs.Common.{◌≡◌, ℕ, zero, suc, ◌+◌, ◌-◌, ◌^◌, ◌<◌, ◌≤◌, ◌⊎◌, inl, inr, Bool, true, false, cond, eqb, leb, not, ◌&&◌, ◌||◌, List, [], ◌∷◌, ◌++◌, length, take, drop, get_or, Option, Some, None, is_none, refl, sym, ap, ◌∙◌, subst, arith, append_assoc, length-append, ⊎_elim}
use Rattle.std.specs.List.{list_all}
use Rattle.std.specs.Prelude.{decimal}
use Rattle.std.specs.Str.{bytes_eq}
use Rattle.std.specs.Str.Parse.{AllDigits, digits_value}
use Rattle.std.proofs.lemmas.Fmt.{decimal_is_IsNumeral}
use Rattle.std.proofs.lemmas.Bool.{and_parts, and_from, and_left, and_right, or_right, not-true, le-leb, cond_both, cond-true, cond-false, eqb-true, true≢false, or_cases}
use Rattle.std.proofs.lemmas.Bool.Decides.{nat_tests}
use Rattle.std.proofs.lemmas.List.{append-nil, drop_all, get_or_append_left}
use Rattle.std.proofs.lemmas.Slice.Eq.{bytes_eq-Decides}
use Rattle.vd_bytes.specs.declared.places.Place.{Place}
use Rattle.vd_trees.specs.declared.revision.Revision.{Revision}
use Rattle.vd_trees.specs.declared.revision.Revision.TheVariants.{V2019, V1993}
use Rattle.vd_trees.specs.Identifiers.{is_letter, is_name_rest, is_name, lowered, place_among, is_identifier}
use Rattle.vd_trees.specs.Words.{reserved_words, words_1993, words_added}
use Rattle.vd_directives.specs.Lines.{place_at}
use Rattle.vd_tokens.specs.declared.kinds.Kind.{Kind}
use Rattle.vd_tokens.specs.declared.kinds.Kind.TheVariants as kind
use Rattle.vd_tokens.specs.Marks.{marks, marks_1993, marks_added}
use Rattle.vd_tokens.specs.Spellings.{doubled, is_graphic, is_digit, is_bit, spelling_of, IsTextOf, IsNumberText, greatest_integer}
use Rattle.vd_literals.specs.declared.quoted.Before.TheVariants.{Start}
use Rattle.vd_literals.specs.declared.bits.Sign.TheVariants.{Plain}
use Rattle.vd_literals.specs.declared.bits.BitsForm.{BitsForm}
use Rattle.vd_literals.specs.declared.bits.BitsForm.TheVariants as bits
use Rattle.vd_literals.specs.Runs.{more_length}
use Rattle.vd_literals.specs.Quoted.{begins_with, marks_end, undoubled}
use Rattle.vd_literals.specs.Bits.{bits_form, bits_text}
use Rattle.vd_lex.specs.declared.states.State.{State}
use Rattle.vd_lex.specs.declared.items.First.{First}
use Rattle.vd_lex.specs.declared.items.First.TheVariants as first
use Rattle.vd_lex.specs.Items.{token, broken, name_item, bits_item, bits_or, word_item, letter_item, digit_item, quoted_item, character_item, has_attribute, apostrophe_item, mark_front, mark_item, are_angles, item_by, item_at, first_of}
use Rattle.vd_lex.specs.Pieces.{passes, reads, refuses, piece_at, checked, first_state, after, is_spacing, need_spacing, begins_line_comment, begins_comment, without_near, with_comment}
use Rattle.vd_lex.specs.Lexis.{moved, step_at, further, start, end_token, IsTokenList}
use Rattle.vd_lex.specs.Scans.{IsPieceRead, position}
use Rattle.vd_lex.specs.Spelled.{fits_apostrophe, one_line, at_column, ReadsSpellings}
use Rattle.vd_lex.proofs.FollowLemmas.{stops, is_stopped, stop_is, no_begin, no_second, no_third}
use Rattle.vd_lex.proofs.SpellingLemmas.{letter_whole, digit_whole, digit_part}
use Rattle.vd_lex.proofs.ReadLemmas.{reads_piece}
use Rattle.vd_lex.proofs.MarkLemmas.{quoted_whole, whole_end, bits_go, body_is, text_whole}

-- ---- bytes that begin marks

abbrev is_other : First → Bool
is_other first.Other = true
is_other _ = false

other_first : (f : First) → is_other f ≡ true → f ≡ first.Other
other_first first.Other e = refl
other_first first.Letter e = absurd (true≢false (sym e))
other_first first.Digit e = absurd (true≢false (sym e))
other_first first.Underscore e = absurd (true≢false (sym e))
other_first first.Quotation e = absurd (true≢false (sym e))
other_first first.Apostrophe e = absurd (true≢false (sym e))
other_first first.Backslash e = absurd (true≢false (sym e))

abbrev begins_mark : ℕ → Bool
begins_mark b = not (is_spacing b) && is_other (first_of b)

-- the byte and those behind it begin no comment, and are no angles
record IsPlain (r : Revision) (b : ℕ) (bs : List ℕ) : Type 0 where
  no_line_comment : begins_line_comment b bs ≡ false
  no_comment : begins_comment r b bs ≡ false
  no_angles : are_angles b bs ≡ false

abbrev is_plain_pair : ℕ → ℕ → Bool
is_plain_pair b c = not (eqb b 45 && eqb c 45) && (not (eqb b 47 && eqb c 42) && not ((eqb b 60 && eqb c 60) || (eqb b 62 && eqb c 62)))

plain_pair : (r : Revision) (b c : ℕ) (cs : List ℕ) → is_plain_pair b c ≡ true → IsPlain r b (c ∷ cs)
plain_pair r b c cs h =
    let line = eqb b 45 && eqb c 45 in
    let comment = eqb b 47 && eqb c 42 in
    let angles = (eqb b 60 && eqb c 60) || (eqb b 62 && eqb c 62) in
    let p = and_parts (not line) (not comment && not angles) h in
    let q = and_parts (not comment) (not angles) p.1 in
    record { no_line_comment = not-true line p.0; no_comment = by r (not-true comment q.0); no_angles = not-true angles q.1 }
  where
    by : (q : Revision) → (eqb b 47 && eqb c 42) ≡ false → begins_comment q b (c ∷ cs) ≡ false
    by V2019 e = e
    by V1993 e = refl

plain_alone : (r : Revision) (b : ℕ) → IsPlain r b []
plain_alone r b = record { no_line_comment = and_right (eqb b 45) false refl; no_comment = by r; no_angles = rw (and_right (eqb b 60) false refl, and_right (eqb b 62) false refl) refl }
  where
    by : (q : Revision) → begins_comment q b [] ≡ false
    by V2019 = and_right (eqb b 47) false refl
    by V1993 = refl

plain_stopped : (r : Revision) (b : ℕ) (after : List ℕ) → list_all (is_plain_pair b) stops ≡ true → is_stopped after ≡ true → IsPlain r b after
plain_stopped r b [] h s = plain_alone r b
plain_stopped r b (c ∷ cs) h s = plain_pair r b c cs (stop_is (is_plain_pair b) h c s)

-- between two tokens, outside a comment
abbrev pub state : Option Kind → Bool → State
state last near = record { last = last; near = near; comment = None }

-- behind one token and in front of other bytes, these bytes are read as one token
abbrev IsReadBefore : Revision → Option Kind → Bool → List ℕ → Kind → List ℕ → List ℕ → Type 0
IsReadBefore r last near after k text bytes = (p : Place) → (0 < length bytes) × (piece_at r (state last near) p (bytes ++ after) ≡ reads (length bytes) k text)

no_comment : (r : Revision) (b : ℕ) (bs : List ℕ) → eqb b 47 ≡ false → begins_comment r b bs ≡ false
no_comment V2019 b bs e = and_left (eqb b 47) _ e
no_comment V1993 b bs e = refl

module _ (r : Revision) (p : Place) (last : Option Kind) (near : Bool) where
  -- ---- a piece whose first byte is no spacing and begins no comment

  piece_from : (b : ℕ) (bs : List ℕ) (n : ℕ) (k : Kind) (text : List ℕ) → (near && need_spacing last (Some k)) ≡ false → is_spacing b ≡ false → begins_line_comment b bs ≡ false → begins_comment r b bs ≡ false
      → item_at r last (b ∷ bs) ≡ token n k text → piece_at r (state last near) p (b ∷ bs) ≡ reads n k text
  piece_from b bs n k text far s d o e =
      let st = state last near in
      let item = checked st (item_at r last (b ∷ bs)) in
      let comment = cond (begins_comment r b bs) (passes 2 (with_comment (Some p) st)) item in
      cond-false (is_spacing b) (passes 1 (without_near st)) (cond (begins_line_comment b bs) (passes (length (b ∷ bs)) st) comment) s
      ∙ (cond-false (begins_line_comment b bs) (passes (length (b ∷ bs)) st) comment d
      ∙ (cond-false (begins_comment r b bs) (passes 2 (with_comment (Some p) st)) item o
      ∙ (ap (checked st) e ∙ cond-false (near && need_spacing last (Some k)) (refuses 103) (reads n k text) far)))

  letter_piece : (b : ℕ) (bs : List ℕ) (n : ℕ) (k : Kind) (text : List ℕ) → (near && need_spacing last (Some k)) ≡ false → is_letter b ≡ true → letter_item r (b ∷ bs) ≡ token n k text → piece_at r (state last near) p (b ∷ bs) ≡ reads n k text
  letter_piece b bs n k text far l e =
      piece_from b bs n k text far (no_spacing b l) (and_left (eqb b 45) _ (no_hyphen b l)) (no_comment r b bs (no_solidus b l)) (first_letter ∙ e)
    where
      no_spacing : (c : ℕ) → is_letter c ≡ true → is_spacing c ≡ false
      no_spacing c h = grind (arith, nat_tests)

      no_hyphen : (c : ℕ) → is_letter c ≡ true → eqb c 45 ≡ false
      no_hyphen c h = grind (arith, nat_tests)

      no_solidus : (c : ℕ) → is_letter c ≡ true → eqb c 47 ≡ false
      no_solidus c h = grind (arith, nat_tests)

      first_letter : item_at r last (b ∷ bs) ≡ letter_item r (b ∷ bs)
      first_letter = ap (item_by r last b bs) (cond-true (is_letter b) first.Letter _ l)

  digit_piece : (b : ℕ) (bs : List ℕ) (n : ℕ) (k : Kind) (text : List ℕ) → (near && need_spacing last (Some k)) ≡ false → is_digit b ≡ true → digit_item r (b ∷ bs) ≡ token n k text → piece_at r (state last near) p (b ∷ bs) ≡ reads n k text
  digit_piece b bs n k text far l e =
      piece_from b bs n k text far (no_spacing b l) (and_left (eqb b 45) _ (no_hyphen b l)) (no_comment r b bs (no_solidus b l)) (first_digit ∙ e)
    where
      no_spacing : (c : ℕ) → is_digit c ≡ true → is_spacing c ≡ false
      no_spacing c h = grind (arith, nat_tests)

      no_hyphen : (c : ℕ) → is_digit c ≡ true → eqb c 45 ≡ false
      no_hyphen c h = grind (arith, nat_tests)

      no_solidus : (c : ℕ) → is_digit c ≡ true → eqb c 47 ≡ false
      no_solidus c h = grind (arith, nat_tests)

      no_letter : (c : ℕ) → is_digit c ≡ true → is_letter c ≡ false
      no_letter c h = grind (arith, nat_tests)

      first_digit : item_at r last (b ∷ bs) ≡ digit_item r (b ∷ bs)
      first_digit = ap (item_by r last b bs) (cond-false (is_letter b) first.Letter _ (no_letter b l) ∙ cond-true (is_digit b) first.Digit _ l)

  quotation_piece : (bs : List ℕ) (n : ℕ) (k : Kind) (text : List ℕ) → (near && need_spacing last (Some k)) ≡ false → quoted_item bs (marks_end false Start bs) ≡ token n k text → piece_at r (state last near) p (34 ∷ bs) ≡ reads n k text
  quotation_piece bs n k text far e = piece_from 34 bs n k text far refl refl (no_comment r 34 bs refl) e

  apostrophe_piece : (bs : List ℕ) (n : ℕ) (k : Kind) (text : List ℕ) → (near && need_spacing last (Some k)) ≡ false → apostrophe_item last bs ≡ token n k text → piece_at r (state last near) p (39 ∷ bs) ≡ reads n k text
  apostrophe_piece bs n k text far e = piece_from 39 bs n k text far refl refl (no_comment r 39 bs refl) e

  other_piece : (b : ℕ) (bs : List ℕ) (n : ℕ) (k : Kind) (text : List ℕ) → (near && need_spacing last (Some k)) ≡ false → begins_mark b ≡ true → IsPlain r b bs → mark_item r (b ∷ bs) ≡ token n k text → piece_at r (state last near) p (b ∷ bs) ≡ reads n k text
  other_piece b bs n k text far m h e =
      let q = and_parts (not (is_spacing b)) (is_other (first_of b)) m in
      piece_from b bs n k text far (not-true (is_spacing b) q.0) h.no_line_comment h.no_comment
      (ap (item_by r last b bs) (other_first (first_of b) q.1) ∙ (cond-false (are_angles b bs) (broken None 107) (mark_item r (b ∷ bs)) h.no_angles ∙ e))

-- ---- names and words

name_piece : (r : Revision) (p : Place) (last : Option Kind) (near : Bool) (after text : List ℕ) (o : Option ℕ) (k : Kind) (inner : List ℕ) → is_stopped after ≡ true → (near && need_spacing last (Some k)) ≡ false → is_name text ≡ true
    → place_among (reserved_words r) (lowered text) ≡ o → name_item (length text) text o ≡ token (length text) k inner → piece_at r (state last near) p (text ++ after) ≡ reads (length text) k inner
name_piece r p last near after [] o k inner s far name e f = absurd (true≢false (sym name))
name_piece r p last near after (b ∷ bs) o k inner s far name e f =
    let n = and_parts (is_letter b) (is_name_rest bs) name in
    letter_piece r p last near b (bs ++ after) (length (b ∷ bs)) k inner far n.0 (letter_whole r b bs after s n.0 n.1 ∙ (ap (name_item (length (b ∷ bs)) (b ∷ bs)) e ∙ f))

abbrev is_place : ℕ → Option ℕ → Bool
is_place n None = false
is_place n (Some k) = eqb k n

-- each word is a name in lower case, and stands in its place alone
abbrev is_word_at : List (List ℕ) → ℕ → List ℕ → Bool
is_word_at words n word = is_name word && (bytes_eq (lowered word) word && is_place n (place_among words word))

abbrev are_words_from : List (List ℕ) → ℕ → List (List ℕ) → Bool
are_words_from words n [] = true
are_words_from words n (w ∷ ws) = is_word_at words n w && are_words_from words (suc n) ws

place_is : (n : ℕ) (o : Option ℕ) → is_place n o ≡ true → o ≡ Some n
place_is n None e = absurd (true≢false (sym e))
place_is n (Some k) e = ap Some (eqb-true k n e)

record IsWordAt (words : List (List ℕ)) (n : ℕ) (word : List ℕ) : Type 0 where
  name : is_name word ≡ true
  lower : lowered word ≡ word
  place : place_among words word ≡ Some n

word_facts : (words : List (List ℕ)) (n : ℕ) (word : List ℕ) → is_word_at words n word ≡ true → IsWordAt words n word
word_facts words n word e =
    let p = and_parts (is_name word) (bytes_eq (lowered word) word && is_place n (place_among words word)) e in
    let q = and_parts (bytes_eq (lowered word) word) (is_place n (place_among words word)) p.1 in
    record { name = p.0; lower = (bytes_eq-Decides (lowered word) word).0 q.0; place = place_is n (place_among words word) q.1 }

word_from : (words : List (List ℕ)) (n : ℕ) (ws : List (List ℕ)) → are_words_from words n ws ≡ true → (i : ℕ) → i < length ws → IsWordAt words (n + i) (get_or ws i [])
word_from words n [] e i h = absurd (omega arith)
word_from words n (w ∷ ws) e zero h =
    let p = and_parts (is_word_at words n w) (are_words_from words (suc n) ws) e in
    subst (λ k. IsWordAt words k w) (let f : n ≡ n + 0 = omega arith in f) (word_facts words n w p.0)
word_from words n (w ∷ ws) e (suc i) h =
    let p = and_parts (is_word_at words n w) (are_words_from words (suc n) ws) e in
    subst (λ k. IsWordAt words k (get_or ws i [])) (let f : suc n + i ≡ n + suc i = omega arith in f) (word_from words (suc n) ws p.1 i (omega arith))

all_words : (r : Revision) → are_words_from (reserved_words r) 0 (reserved_words r) ≡ true
all_words V2019 = refl
all_words V1993 = refl

-- the words of 1993 stand first
same_word : (r : Revision) (n : ℕ) → n < length (reserved_words r) → get_or (reserved_words V2019) n [] ≡ get_or (reserved_words r) n []
same_word V2019 n h = refl
same_word V1993 n h = get_or_append_left words_1993 words_added [] n h

word_at : (r : Revision) (n : ℕ) → n < length (reserved_words r) → IsWordAt (reserved_words r) n (get_or (reserved_words V2019) n [])
word_at r n h = subst (IsWordAt (reserved_words r) n) (sym (same_word r n h)) (subst (λ k. IsWordAt (reserved_words r) k (get_or (reserved_words r) n [])) (let f : 0 + n ≡ n = omega arith in f) (word_from (reserved_words r) 0 (reserved_words r) (all_words r) n h))

-- ---- marks

-- a text that can be a mark in front of bytes at which it ends
abbrev is_mark_text : List ℕ → Bool
is_mark_text [] = false
is_mark_text (b ∷ []) = begins_mark b && list_all (is_plain_pair b) stops
is_mark_text (b ∷ c ∷ []) = begins_mark b && is_plain_pair b c
is_mark_text (b ∷ c ∷ d ∷ []) = begins_mark b && is_plain_pair b c
is_mark_text (b ∷ c ∷ d ∷ e ∷ es) = false

-- each mark but the apostrophe is such a text, and stands in its place alone
abbrev are_marks_from : List (List ℕ) → ℕ → List (List ℕ) → Bool
are_marks_from texts n [] = true
are_marks_from texts n (t ∷ ts) = (eqb n 1 || (is_mark_text t && is_place n (place_among texts t))) && are_marks_from texts (suc n) ts

record IsMarkAt (texts : List (List ℕ)) (n : ℕ) (t : List ℕ) : Type 0 where
  mark : is_mark_text t ≡ true
  place : place_among texts t ≡ Some n

mark_facts : (texts : List (List ℕ)) (n : ℕ) (t : List ℕ) → (n ≡ 1 → ⊥) → (eqb n 1 || (is_mark_text t && is_place n (place_among texts t))) ≡ true → IsMarkAt texts n t
mark_facts texts n t other e = by (or_cases (eqb n 1) (is_mark_text t && is_place n (place_among texts t)) e)
  where
    by : (eqb n 1 ≡ true) ⊎ ((is_mark_text t && is_place n (place_among texts t)) ≡ true) → IsMarkAt texts n t
    by (inl x) = absurd (other (eqb-true n 1 x))
    by (inr x) = let q = and_parts (is_mark_text t) (is_place n (place_among texts t)) x in record { mark = q.0; place = place_is n (place_among texts t) q.1 }

mark_from : (texts : List (List ℕ)) (n : ℕ) (ts : List (List ℕ)) → are_marks_from texts n ts ≡ true → (i : ℕ) → i < length ts → (n + i ≡ 1 → ⊥) → IsMarkAt texts (n + i) (get_or ts i [])
mark_from texts n [] e i h other = absurd (omega arith)
mark_from texts n (t ∷ ts) e zero h other =
    let f : n ≡ n + 0 = omega arith in
    let q = and_parts (eqb n 1 || (is_mark_text t && is_place n (place_among texts t))) (are_marks_from texts (suc n) ts) e in
    subst (λ k. IsMarkAt texts k t) f (mark_facts texts n t (λ x. other (sym f ∙ x)) q.0)
mark_from texts n (t ∷ ts) e (suc i) h other =
    let f : suc n + i ≡ n + suc i = omega arith in
    let q = and_parts (eqb n 1 || (is_mark_text t && is_place n (place_among texts t))) (are_marks_from texts (suc n) ts) e in
    subst (λ k. IsMarkAt texts k (get_or ts i [])) f (mark_from texts (suc n) ts q.1 i (omega arith) (λ x. other (sym f ∙ x)))

all_marks : (r : Revision) → are_marks_from (marks r) 0 (marks r) ≡ true
all_marks V2019 = refl
all_marks V1993 = refl

same_mark : (r : Revision) (n : ℕ) → n < length (marks r) → get_or (marks V2019) n [] ≡ get_or (marks r) n []
same_mark V2019 n h = refl
same_mark V1993 n h = get_or_append_left marks_1993 marks_added [] n h

mark_at : (r : Revision) (n : ℕ) → n < length (marks r) → (n ≡ 1 → ⊥) → IsMarkAt (marks r) n (get_or (marks V2019) n [])
mark_at r n h other =
    let f : 0 + n ≡ n = omega arith in
    subst (IsMarkAt (marks r) n) (sym (same_mark r n h)) (subst (λ k. IsMarkAt (marks r) k (get_or (marks r) n [])) f (mark_from (marks r) 0 (marks r) (all_marks r) n h (λ x. other (sym f ∙ x))))

module _ (r : Revision) where
  -- the front of a text, where it is no mark
  no_front : (m : ℕ) (text : List ℕ) → place_among (marks r) (take m text) ≡ None → mark_front r m text ≡ None
  no_front m text e = cond_both (leb m (length text)) (place_among (marks r) (take m text)) None (λ o. o ≡ None) (λ t. e) (λ t. refl)

  some_front : (m n : ℕ) (text : List ℕ) → m ≤ length text → place_among (marks r) (take m text) ≡ Some n → mark_front r m text ≡ Some n
  some_front m n text h e = cond-true (leb m (length text)) (place_among (marks r) (take m text)) None (le-leb m (length text) h) ∙ e

  -- the longest mark has one byte, two, or three
  longest_one : (text : List ℕ) (n : ℕ) → mark_front r 1 text ≡ Some n → mark_front r 2 text ≡ None → mark_front r 3 text ≡ None → mark_item r text ≡ token 1 (kind.Mark n) []
  longest_one text n one two three = rw (three, two, one) refl

  longest_two : (text : List ℕ) (n : ℕ) → mark_front r 2 text ≡ Some n → mark_front r 3 text ≡ None → mark_item r text ≡ token 2 (kind.Mark n) []
  longest_two text n two three = rw (three, two) refl

  longest_three : (text : List ℕ) (n : ℕ) → mark_front r 3 text ≡ Some n → mark_item r text ≡ token 3 (kind.Mark n) []
  longest_three text n three = rw (three) refl

  module _ (n b : ℕ) where
    item_one : (after : List ℕ) → is_stopped after ≡ true → place_among (marks r) (b ∷ []) ≡ Some n → mark_item r (b ∷ after) ≡ token 1 (kind.Mark n) []
    item_one [] s e = longest_one (b ∷ []) n (some_front 1 n (b ∷ []) (omega arith) e) refl refl
    item_one (c ∷ cs) s e =
        let text = b ∷ c ∷ cs in
        longest_one text n (some_front 1 n text (omega arith) e) (no_front 2 text (no_second r c (take 2 text) s refl)) (no_front 3 text (no_second r c (take 3 text) s refl))

    item_two : (c : ℕ) (after : List ℕ) → is_stopped after ≡ true → place_among (marks r) (b ∷ c ∷ []) ≡ Some n → mark_item r (b ∷ c ∷ after) ≡ token 2 (kind.Mark n) []
    item_two c [] s e = longest_two (b ∷ c ∷ []) n (some_front 2 n (b ∷ c ∷ []) (omega arith) e) refl
    item_two c (d ∷ ds) s e =
        let text = b ∷ c ∷ d ∷ ds in
        longest_two text n (some_front 2 n text (omega arith) e) (no_front 3 text (no_third r d (take 3 text) s refl))

    item_three : (c d : ℕ) (after : List ℕ) → place_among (marks r) (b ∷ c ∷ d ∷ []) ≡ Some n → mark_item r (b ∷ c ∷ d ∷ after) ≡ token 3 (kind.Mark n) []
    item_three c d after e = let text = b ∷ c ∷ d ∷ after in longest_three text n (some_front 3 n text (omega arith) e)

  module _ (p : Place) (last : Option Kind) (near : Bool) (n : ℕ) (far : (near && need_spacing last (Some (kind.Mark n))) ≡ false) where
    mark_piece : (t after : List ℕ) → is_stopped after ≡ true → is_mark_text t ≡ true → place_among (marks r) t ≡ Some n → piece_at r (state last near) p (t ++ after) ≡ reads (length t) (kind.Mark n) []
    mark_piece [] after s m e = absurd (true≢false (sym m))
    mark_piece (b ∷ []) after s m e =
        let q = and_parts (begins_mark b) (list_all (is_plain_pair b) stops) m in
        other_piece r p last near b after 1 (kind.Mark n) [] far q.0 (plain_stopped r b after q.1 s) (item_one n b after s e)
    mark_piece (b ∷ c ∷ []) after s m e =
        let q = and_parts (begins_mark b) (is_plain_pair b c) m in
        other_piece r p last near b (c ∷ after) 2 (kind.Mark n) [] far q.0 (plain_pair r b c after q.1) (item_two n b c after s e)
    mark_piece (b ∷ c ∷ d ∷ []) after s m e =
        let q = and_parts (begins_mark b) (is_plain_pair b c) m in
        other_piece r p last near b (c ∷ d ∷ after) 3 (kind.Mark n) [] far q.0 (plain_pair r b c (d ∷ after) q.1) (item_three n b c d after e)
    mark_piece (b ∷ c ∷ d ∷ x ∷ xs) after s m e = absurd (true≢false (sym m))

  some_mark : (t : List ℕ) → is_mark_text t ≡ true → 0 < length t
  some_mark [] e = absurd (true≢false (sym e))
  some_mark (b ∷ bs) e = omega arith

-- a bracket and a point begin no longer mark, whatever stands behind them
bracket_item : (r : Revision) (after : List ℕ) → mark_item r (40 ∷ after) ≡ token 1 (kind.Mark 2) []
bracket_item V2019 [] = refl
bracket_item V1993 [] = refl
bracket_item V2019 (c ∷ cs) = let text = 40 ∷ c ∷ cs in longest_one V2019 text 2 (some_front V2019 1 2 text (omega arith) refl) (no_front V2019 2 text refl) (no_front V2019 3 text refl)
bracket_item V1993 (c ∷ cs) = let text = 40 ∷ c ∷ cs in longest_one V1993 text 2 (some_front V1993 1 2 text (omega arith) refl) (no_front V1993 2 text refl) (no_front V1993 3 text refl)

point_item : (r : Revision) (after : List ℕ) → mark_item r (46 ∷ after) ≡ token 1 (kind.Mark 8) []
point_item V2019 [] = refl
point_item V1993 [] = refl
point_item V2019 (c ∷ cs) = let text = 46 ∷ c ∷ cs in longest_one V2019 text 8 (some_front V2019 1 8 text (omega arith) refl) (no_front V2019 2 text refl) (no_front V2019 3 text refl)
point_item V1993 (c ∷ cs) = let text = 46 ∷ c ∷ cs in longest_one V1993 text 8 (some_front V1993 1 8 text (omega arith) refl) (no_front V1993 2 text refl) (no_front V1993 3 text refl)

plain_first : (r : Revision) (b : ℕ) (after : List ℕ) → eqb b 45 ≡ false → eqb b 47 ≡ false → eqb b 60 ≡ false → eqb b 62 ≡ false → IsPlain r b after
plain_first r b after h s l g = record { no_line_comment = and_left (eqb b 45) _ h; no_comment = no_comment r b after s; no_angles = rw (l, g) refl }

-- ---- each kind

none_is : (o : Option ℕ) → is_none o ≡ true → o ≡ None
none_is None e = refl
none_is (Some n) e = absurd (true≢false (sym e))

name_some : (text : List ℕ) → is_name text ≡ true → 0 < length text
name_some [] e = absurd (true≢false (sym e))
name_some (b ∷ bs) e = omega arith

bits_form_whole : (r : Revision) (text after : List ℕ) → begins_with 34 after ≡ false → list_all (is_bit r) text ≡ true → bits_form r 0 (66 ∷ 34 ∷ (doubled text ++ 34 ∷ after)) ≡ bits.Whole Plain 1 2 (2 + (length (doubled text) + 1) - 1)
bits_form_whole r text after o h =
    ap (λ o. elim o as (λ _. BitsForm) [ Some n ↦ bits.Whole Plain 1 2 (2 + n - 1) | None ↦ elim (marks_end false Start (doubled text ++ 34 ∷ after)) as (λ _. BitsForm) [ Some n ↦ bits.Absent | None ↦ bits.Unended ] ]) (whole_end true Start text after o refl (bits_go r text h))

module _ (r : Revision) (last : Option Kind) (near : Bool) where
  module _ (after : List ℕ) (s : is_stopped after ≡ true) where
    name_whole : (text : List ℕ) → (near && need_spacing last (Some kind.Name)) ≡ false → is_identifier r text ≡ true → IsReadBefore r last near after kind.Name text text
    name_whole text far e p =
        let a = and_parts (is_name text) (bytes_eq (lowered text) text && is_none (place_among (reserved_words r) text)) e in
        let b = and_parts (bytes_eq (lowered text) text) (is_none (place_among (reserved_words r) text)) a.1 in
        let same = (bytes_eq-Decides (lowered text) text).0 b.0 in
        (name_some text a.0, name_piece r p last near after text None kind.Name text s far a.0 (ap (place_among (reserved_words r)) same ∙ none_is (place_among (reserved_words r) text) b.1) (ap (token (length text) kind.Name) same))

    word_whole : (n : ℕ) (text : List ℕ) → (near && need_spacing last (Some (kind.Word n))) ≡ false → n < length (reserved_words r) → text ≡ [] → IsReadBefore r last near after (kind.Word n) text (get_or (reserved_words V2019) n [])
    word_whole n text far h e p =
        let w = get_or (reserved_words V2019) n [] in
        let a = word_at r n h in
        (name_some w a.name, name_piece r p last near after w (Some n) (kind.Word n) text s far a.name (ap (place_among (reserved_words r)) a.lower ∙ a.place) (ap (token (length w) (kind.Word n)) (sym e)))

    module _ (far : (near && need_spacing last (Some kind.Number)) ≡ false) (point : begins_with 46 after ≡ false) where
      digits_piece : (p : Place) (ds : List ℕ) (v : ℕ) → 0 < length ds → AllDigits 10 ds → digits_value 10 ds ≡ v → v ≤ greatest_integer → decimal v ≡ ds → piece_at r (state last near) p (ds ++ after) ≡ reads (length ds) kind.Number ds
      digits_piece p [] v some all value fits e = absurd (omega arith)
      digits_piece p (d ∷ ds) v some all value fits e =
          digit_piece r p last near d (ds ++ after) (length (d ∷ ds)) kind.Number (d ∷ ds) far (digit_part d all.0) (digit_whole (d ∷ ds) after s point all v value fits r ∙ ap (token (length (d ∷ ds)) kind.Number) e)

      number_whole : (text : List ℕ) → IsNumberText text → IsReadBefore r last near after kind.Number text text
      number_whole text h p =
          let small : h.number < 2 ^ 64 = omega (arith, h.fits) in
          let d = decimal_is_IsNumeral h.number small in
          subst (λ ds. (0 < length ds) × (piece_at r (state last near) p (ds ++ after) ≡ reads (length ds) kind.Number ds)) (sym h.is_decimal)
          (d.0.0, digits_piece p (decimal h.number) h.number d.0.0 d.0.1 d.1 h.fits refl)

    text_marks_whole : (text : List ℕ) → (near && need_spacing last (Some kind.Quoted)) ≡ false → list_all is_graphic text ≡ true → IsReadBefore r last near after kind.Quoted text (34 ∷ (doubled text ++ 34 ∷ []))
    text_marks_whole text far g p =
        let l = length-append (doubled text) (34 ∷ []) in
        let e : 1 + (length (doubled text) + 1) ≡ length (34 ∷ (doubled text ++ 34 ∷ [])) = omega (arith, l) in
        let o = no_begin 34 after refl s in (
          omega arith,
          subst (λ bs. piece_at r (state last near) p (34 ∷ bs) ≡ reads (length (34 ∷ (doubled text ++ 34 ∷ []))) kind.Quoted text) (sym (append_assoc (doubled text) (34 ∷ []) after))
              (quotation_piece r p last near (doubled text ++ 34 ∷ after) (length (34 ∷ (doubled text ++ 34 ∷ []))) kind.Quoted text far (quoted_whole text after o g ∙ ap (λ n. token n kind.Quoted text) e)),
        )

    bits_item_whole : (text : List ℕ) → list_all (is_bit r) text ≡ true → letter_item r (66 ∷ 34 ∷ (doubled text ++ 34 ∷ after)) ≡ token (2 + (length (doubled text) + 1)) kind.Bits text
    bits_item_whole text h =
        let rest = doubled text ++ 34 ∷ after in
        let end = 2 + (length (doubled text) + 1) - 1 in
        let o = no_begin 34 after refl s in
        let e : end + 1 ≡ 2 + (length (doubled text) + 1) = omega arith in
        let f : end - 2 ≡ length (doubled text) + 1 - 1 = omega arith in
        ap (bits_or r (66 ∷ 34 ∷ rest) None (word_item r (1 + more_length true (34 ∷ rest)) (66 ∷ 34 ∷ rest))) (bits_form_whole r text after o h)
        ∙ (ap (λ k. bits_item (end + 1) (bits_text r Plain 1 None (undoubled (take k rest)))) f
        ∙ (ap (λ t. bits_item (end + 1) (bits_text r Plain 1 None t)) (body_is text after)
        ∙ (ap (bits_item (end + 1)) (text_whole r text h) ∙ ap (λ n. token n kind.Bits text) e)))

    bits_whole : (text : List ℕ) → (near && need_spacing last (Some kind.Bits)) ≡ false → list_all (is_bit r) text ≡ true → IsReadBefore r last near after kind.Bits text (66 ∷ 34 ∷ (doubled text ++ 34 ∷ []))
    bits_whole text far h p =
        let whole = 66 ∷ 34 ∷ (doubled text ++ 34 ∷ []) in
        let l = length-append (doubled text) (34 ∷ []) in
        let e : 2 + (length (doubled text) + 1) ≡ length whole = omega (arith, l) in (
          omega arith,
          subst (λ bs. piece_at r (state last near) p (66 ∷ 34 ∷ bs) ≡ reads (length whole) kind.Bits text) (sym (append_assoc (doubled text) (34 ∷ []) after))
              (letter_piece r p last near 66 (34 ∷ (doubled text ++ 34 ∷ after)) (length whole) kind.Bits text far refl (bits_item_whole text h ∙ ap (λ n. token n kind.Bits text) e)),
        )

    mark_whole : (n : ℕ) (text : List ℕ) → (near && need_spacing last (Some (kind.Mark n))) ≡ false → n < length (marks r) → (n ≡ 1 → ⊥) → text ≡ [] → IsReadBefore r last near after (kind.Mark n) text (get_or (marks V2019) n [])
    mark_whole n text far h other e p =
        let t = get_or (marks V2019) n [] in
        let a = mark_at r n h other in
        (some_mark r t a.mark, mark_piece r p last near n far t after s a.mark a.place ∙ ap (reads (length t) (kind.Mark n)) (sym e))

  character_whole : (after text : List ℕ) → (near && need_spacing last (Some kind.Letter)) ≡ false → has_attribute last ≡ false → length text ≡ 1 → list_all is_graphic text ≡ true → IsReadBefore r last near after kind.Letter text (39 ∷ text ++ 39 ∷ [])
  character_whole after [] far none e g p = absurd (omega arith)
  character_whole after (b ∷ []) far none e g p = (
    omega arith,
    apostrophe_piece r p last near (b ∷ 39 ∷ after) 3 kind.Letter (b ∷ []) far
        (cond-false (has_attribute last) (token 1 (kind.Mark 1) []) (character_item (b ∷ 39 ∷ after)) none
        ∙ cond-true (is_graphic b && true) (token 3 kind.Letter (b ∷ [])) (broken None 102) (and_from (is_graphic b) true (and_parts (is_graphic b) true g).0 refl)),
  )
  character_whole after (b ∷ c ∷ cs) far none e g p = absurd (omega arith)

  -- a mark that no byte goes on with
  module _ (after text : List ℕ) (n : ℕ) (far : (near && need_spacing last (Some (kind.Mark n))) ≡ false) (e : text ≡ []) where
    abbrev IsMarkRead : ℕ → Type 0
    IsMarkRead m = IsReadBefore r last near after (kind.Mark m) text (get_or (marks V2019) m [])

    mark_as : (m : ℕ) → eqb n m ≡ true → IsMarkRead m → IsMarkRead n
    mark_as m h k = subst IsMarkRead (sym (eqb-true n m h)) k

    apostrophe_whole : has_attribute last ≡ true → IsMarkRead 1
    apostrophe_whole has p =
        (omega arith, apostrophe_piece r p last near after 1 (kind.Mark 1) [] far (cond-true (has_attribute last) (token 1 (kind.Mark 1) []) (character_item after) has) ∙ ap (reads 1 (kind.Mark 1)) (sym e))

    bracket_whole : IsMarkRead 2
    bracket_whole p = (omega arith, other_piece r p last near 40 after 1 (kind.Mark 2) [] far refl (plain_first r 40 after refl refl refl refl) (bracket_item r after) ∙ ap (reads 1 (kind.Mark 2)) (sym e))

    point_whole : IsMarkRead 8
    point_whole p = (omega arith, other_piece r p last near 46 after 1 (kind.Mark 8) [] far refl (plain_first r 46 after refl refl refl refl) (point_item r after) ∙ ap (reads 1 (kind.Mark 8)) (sym e))

    fixed_whole : (not (eqb n 1) || has_attribute last) ≡ true → (eqb n 1 || (eqb n 2 || eqb n 8)) ≡ true → IsMarkRead n
    fixed_whole fits h =
        ⊎_elim (λ x. mark_as 1 x (apostrophe_whole (has x)))
        (λ x. ⊎_elim (λ y. mark_as 2 y bracket_whole) (λ y. mark_as 8 y point_whole) (or_cases (eqb n 2) (eqb n 8) x))
        (or_cases (eqb n 1) (eqb n 2 || eqb n 8) h)
      where
        has : eqb n 1 ≡ true → has_attribute last ≡ true
        has x = sym (ap (λ b. not b || has_attribute last) x) ∙ fits

-- ---- any token

-- what may stand behind a token: bytes at which it ends, and behind a number no point; behind some tokens anything
abbrev pub may_follow : Kind → List ℕ → Bool
may_follow kind.Letter after = true
may_follow kind.Number after = is_stopped after && not (begins_with 46 after)
may_follow (kind.Mark n) after = (eqb n 1 || (eqb n 2 || eqb n 8)) || is_stopped after
may_follow _ after = is_stopped after

pub any_whole : (r : Revision) (last : Option Kind) (near : Bool) (after : List ℕ) (k : Kind) (text : List ℕ) → IsTextOf r k text → (k ≡ kind.End → ⊥) → may_follow k after ≡ true → fits_apostrophe last k ≡ true → (near && need_spacing last (Some k)) ≡ false
    → IsReadBefore r last near after k text (spelling_of k text)
any_whole r last near after kind.Name text h no_end follows fits far = name_whole r last near after follows text far h
any_whole r last near after kind.Number text h no_end follows fits far =
    let q = and_parts (is_stopped after) (not (begins_with 46 after)) follows in
    number_whole r last near after q.0 far (not-true (begins_with 46 after) q.1) text h
any_whole r last near after kind.Letter text h no_end follows fits far = character_whole r last near after text far (not-true (has_attribute last) fits) h.0 h.1
any_whole r last near after kind.Quoted text h no_end follows fits far = text_marks_whole r last near after follows text far h
any_whole r last near after kind.Bits text h no_end follows fits far = bits_whole r last near after follows text far h
any_whole r last near after (kind.Word n) text h no_end follows fits far = word_whole r last near after follows n text far h.0 h.1
any_whole r last near after (kind.Mark n) text h no_end follows fits far = by (eqb n 1 || (eqb n 2 || eqb n 8)) refl
  where
    by : (b : Bool) → (eqb n 1 || (eqb n 2 || eqb n 8)) ≡ b → IsReadBefore r last near after (kind.Mark n) text (spelling_of (kind.Mark n) text)
    by true e = fixed_whole r last near after text n far h.1 fits e
    by false e =
        let stopped : is_stopped after ≡ true = sym (ap (λ b. b || is_stopped after) e) ∙ follows in
        mark_whole r last near after stopped n text far h.0 (λ x. true≢false (sym (ap (λ m. eqb m 1 || (eqb m 2 || eqb m 8)) x) ∙ e)) h.1
any_whole r last near after kind.End text h no_end follows fits far = absurd (no_end refl)

-- ---- the token list of one token

listed : (r : Revision) (k : Kind) (text bytes : List ℕ) → IsReadBefore r None false [] k text bytes → IsTokenList r (one_line bytes) (at_column 1 k text ∷ at_column (length bytes + 1) kind.End [] ∷ [])
listed r k text bytes h =
    let p = place_at 0 1 1 in
    let w = h p in
    let read : piece_at r first_state p bytes ≡ reads (length bytes) k text = ap (piece_at r first_state p) (sym (append-nil bytes)) ∙ w.1 in
    let a = reads_piece r first_state p bytes w.0 (length bytes) (after k) [] (at_column 1 k text ∷ []) (subst (λ pc. IsPieceRead pc p (length bytes) (after k) [] (at_column 1 k text ∷ [])) (sym read) (refl, refl, refl)) in
    let last = position (after k) (moved p (length bytes)) (drop (length bytes) bytes) [] in
    record {
      before = a.tokens;
      last = last;
      read = further (start (one_line bytes)) (position first_state p bytes []) last [] a.tokens refl (a.read []);
      ended = ap (λ bs. step_at r (position (after k) (moved p (length bytes)) bs [])) (drop_all (length bytes) bytes (omega arith));
      tokens = ap (λ ts. ts ++ end_token (one_line bytes) ∷ []) a.added;
    }

pub follows_nothing : (k : Kind) → may_follow k [] ≡ true
follows_nothing kind.Name = refl
follows_nothing kind.Number = refl
follows_nothing kind.Letter = refl
follows_nothing kind.Quoted = refl
follows_nothing kind.Bits = refl
follows_nothing (kind.Word n) = refl
follows_nothing (kind.Mark n) = or_right (eqb n 1 || (eqb n 2 || eqb n 8)) true refl
follows_nothing kind.End = refl

fits_alone : (k : Kind) → (k ≡ kind.Mark 1 → ⊥) → fits_apostrophe None k ≡ true
fits_alone (kind.Mark n) other = by (eqb n 1) refl
  where
    by : (b : Bool) → eqb n 1 ≡ b → (not b || false) ≡ true
    by true e = absurd (other (ap kind.Mark (eqb-true n 1 e)))
    by false e = refl
fits_alone kind.Letter other = refl
fits_alone _ other = refl

pub spellings_read_back : ReadsSpellings
spellings_read_back r k text h no_end other = listed r k text (spelling_of k text) (any_whole r None false [] k text h no_end (follows_nothing k) (fits_alone k other) refl)
