-- Kinds whose symbols may stand side by side.
use Rattle.std.proofs.Common.{◌≡◌, ℕ, ◌+◌, ◌<◌, Bool, true, false, cond, eqb, ltb, not, ◌&&◌, ◌||◌, ⊎_elim, Some, None, refl, sym, ap, ◌∙◌, subst, arith}
use Rattle.std.proofs.lemmas.Bool.{and_parts, and_from, and_right, or_cases, eqb-true, true≢false}
use Rattle.std.proofs.lemmas.Bool.Decides.{nat_tests}
use Rattle.vd_tokens.specs.declared.kinds.Kind.{Kind}
use Rattle.vd_tokens.specs.declared.kinds.Kind.TheVariants as kind
use Rattle.vd_shapes.specs.Reading.{symbol_of}
use Rattle.vd_lex.specs.Items.{has_attribute}
use Rattle.vd_lex.specs.Pieces.{is_number}
use Rattle.vd_lex.specs.Spelled.{fits_apostrophe}
use Rattle.vd_spacing.specs.Spacing.{is_mark}
use Rattle.vd_spacing.specs.ReadingBack.{are_neighbours}
use Rattle.vd_neighbours.specs.Neighbours.{is_range_or_all}

-- a name, a ')', a letter or a text in marks
abbrev pub takes_attribute : ℕ → Bool
takes_attribute a = eqb a 0 || (eqb a 8 || (eqb a 2 || eqb a 3))

-- a letter (2) stands behind none of these, the mark ' (6) behind these and the words `all` and `range` alone, and the mark . (13)
-- behind no number
abbrev pub may_touch : ℕ → ℕ → Bool
may_touch a b =
    (not (eqb b 2) || not (takes_attribute a)) && ((not (eqb b 6) || (takes_attribute a || (eqb a 40 || eqb a 100))) && (not (eqb b 13) || not (eqb a 1)))

implied : (a b : Bool) → (not a || b) ≡ true → a ≡ true → b ≡ true
implied true b h e = h
implied false b h e = absurd (true≢false (sym e))

-- ---- the kind in front

letter_free : (k : Kind) → may_touch (symbol_of k) 2 ≡ true → has_attribute (Some k) ≡ false
letter_free kind.Name h = absurd (true≢false (sym h))
letter_free kind.Number h = refl
letter_free kind.Letter h = absurd (true≢false (sym h))
letter_free kind.Quoted h = absurd (true≢false (sym h))
letter_free kind.Bits h = refl
letter_free (kind.Word n) h = refl
letter_free kind.End h = refl
letter_free (kind.Mark n) h = by (eqb n 3) refl
  where
    by : (b : Bool) → eqb n 3 ≡ b → eqb n 3 ≡ false
    by true e = absurd (true≢false (sym (subst (λ m. may_touch (symbol_of (kind.Mark m)) 2 ≡ true) (eqb-true n 3 e) h)))
    by false e = e

number_free : (k : Kind) → may_touch (symbol_of k) 13 ≡ true → is_number (Some k) ≡ false
number_free kind.Number h = absurd (true≢false (sym h))
number_free kind.Name h = refl
number_free kind.Letter h = refl
number_free kind.Quoted h = refl
number_free kind.Bits h = refl
number_free (kind.Word n) h = refl
number_free kind.End h = refl
number_free (kind.Mark n) h = refl

word_symbol : (n : ℕ) → (takes_attribute (symbol_of (kind.Word n)) || (eqb (symbol_of (kind.Word n)) 40 || eqb (symbol_of (kind.Word n)) 100)) ≡ true → (eqb n 64 || eqb n 4) ≡ true
word_symbol n h = by (ltb n 115) refl h
  where
    by : (b : Bool) → ltb n 115 ≡ b → (takes_attribute (cond b (n + 36) 65535) || (eqb (cond b (n + 36) 65535) 40 || eqb (cond b (n + 36) 65535) 100)) ≡ true → (eqb n 64 || eqb n 4) ≡ true
    by true e k = grind (arith, nat_tests)
    by false e k = absurd (true≢false (sym k))

mark_symbol : (n : ℕ) → (takes_attribute (symbol_of (kind.Mark n)) || (eqb (symbol_of (kind.Mark n)) 40 || eqb (symbol_of (kind.Mark n)) 100)) ≡ true → eqb n 3 ≡ true
mark_symbol n h = by (ltb n 31) refl h
  where
    by : (b : Bool) → ltb n 31 ≡ b → (takes_attribute (cond b (n + 5) 65535) || (eqb (cond b (n + 5) 65535) 40 || eqb (cond b (n + 5) 65535) 100)) ≡ true → eqb n 3 ≡ true
    by true e k = grind (arith, nat_tests)
    by false e k = absurd (true≢false (sym k))

attribute_taken : (k : Kind) → (takes_attribute (symbol_of k) || (eqb (symbol_of k) 40 || eqb (symbol_of k) 100)) ≡ true → is_range_or_all k ≡ false → has_attribute (Some k) ≡ true
attribute_taken kind.Name h w = refl
attribute_taken kind.Letter h w = refl
attribute_taken kind.Quoted h w = refl
attribute_taken kind.Number h w = absurd (true≢false (sym h))
attribute_taken kind.Bits h w = absurd (true≢false (sym h))
attribute_taken kind.End h w = absurd (true≢false (sym h))
attribute_taken (kind.Word n) h w = absurd (true≢false (sym (word_symbol n h) ∙ w))
attribute_taken (kind.Mark n) h w = mark_symbol n h

-- ---- two kinds

no_number : (k : Kind) → not (is_number (Some k) && false) ≡ true
no_number k = ap not (and_right (is_number (Some k)) false refl)

mark_fits : (k : Kind) (m : ℕ) → may_touch (symbol_of k) (symbol_of (kind.Mark m)) ≡ true → (is_range_or_all k && eqb m 1) ≡ false → (not (eqb m 1) || has_attribute (Some k)) ≡ true
mark_fits k m h w = by (eqb m 1) refl
  where
    no_word : (is_range_or_all k && true) ≡ false → is_range_or_all k ≡ false
    no_word e = both (is_range_or_all k) e
      where
        both : (b : Bool) → (b && true) ≡ false → b ≡ false
        both true f = f
        both false f = refl

    there : eqb m 1 ≡ true → may_touch (symbol_of k) 6 ≡ true
    there e = subst (λ n. may_touch (symbol_of k) (symbol_of (kind.Mark n)) ≡ true) (eqb-true m 1 e) h

    by : (b : Bool) → eqb m 1 ≡ b → (not b || has_attribute (Some k)) ≡ true
    by false e = refl
    by true e =
        let q = and_parts (true || not (takes_attribute (symbol_of k))) ((false || (takes_attribute (symbol_of k) || (eqb (symbol_of k) 40 || eqb (symbol_of k) 100))) && true) (there e) in
        let p = and_parts (takes_attribute (symbol_of k) || (eqb (symbol_of k) 40 || eqb (symbol_of k) 100)) true q.1 in
        attribute_taken k p.0 (no_word (sym (ap (λ b. is_range_or_all k && b) e) ∙ w))

point_fits : (k : Kind) (m : ℕ) → may_touch (symbol_of k) (symbol_of (kind.Mark m)) ≡ true → not (is_number (Some k) && eqb m 8) ≡ true
point_fits k m h = by (eqb m 8) refl
  where
    by : (b : Bool) → eqb m 8 ≡ b → not (is_number (Some k) && b) ≡ true
    by false e = no_number k
    by true e = ap (λ b. not (b && true)) (number_free k (subst (λ n. may_touch (symbol_of k) (symbol_of (kind.Mark n)) ≡ true) (eqb-true m 8 e) h))

pub neighbours : (k l : Kind) → may_touch (symbol_of k) (symbol_of l) ≡ true → (is_range_or_all k && is_mark 1 l) ≡ false → are_neighbours (Some k) l ≡ true
neighbours k (kind.Mark m) h w = and_from (not (eqb m 1) || has_attribute (Some k)) _ (mark_fits k m h w) (point_fits k m h)
neighbours k kind.Letter h w = and_from (not (has_attribute (Some k))) _ (ap not (letter_free k h)) (no_number k)
neighbours k _ h w = no_number k

-- the first token
pub first_fits : (l : Kind) → eqb (symbol_of l) 6 ≡ false → are_neighbours None l ≡ true
first_fits (kind.Mark m) h = by (eqb m 1) refl
  where
    by : (b : Bool) → eqb m 1 ≡ b → ((not b || false) && not (false && eqb m 8)) ≡ true
    by true e = absurd (true≢false (sym (ap (λ n. eqb (symbol_of (kind.Mark n)) 6) (eqb-true m 1 e)) ∙ h))
    by false e = refl
first_fits kind.Letter h = refl
first_fits _ h = refl
