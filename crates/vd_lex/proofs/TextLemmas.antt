-- The texts of numbers, of texts in marks and of bits.
use Rattle.std.proofs.Common.{◌≡◌, ℕ, zero, suc, ◌+◌, ◌-◌, ◌*◌, ◌/◌, ◌%◌, ◌^◌, ◌<◌, ◌≤◌, Bool, true, false, cond, eqb, leb, ltb, ◌&&◌, ◌||◌, List, [], ◌∷◌, ◌++◌, length, take, drop, replicate, Option, Some, None, refl, sym, ap, ◌∙◌, subst, arith}
use Rattle.std.specs.List.{list_all, flat_map}
use Rattle.std.specs.Prelude.{filter, slice_range}
use Rattle.std.specs.Char.{digit_value}
use Rattle.std.proofs.lemmas.Bool.{and_parts, and_from, cond_both, leb-true, not-true, true≢false}
use Rattle.std.proofs.lemmas.Bool.Decides.{nat_tests}
use Rattle.std.proofs.lemmas.List.Folds.{list_all-append}
use Rattle.vd_trees.specs.declared.revision.Revision.{Revision}
use Rattle.vd_trees.specs.declared.revision.Revision.TheVariants.{V2019, V1993}
use Rattle.vd_tokens.specs.Spellings.{is_graphic, is_bit, greatest_integer}
use Rattle.vd_literals.specs.declared.quoted.Before.{Before}
use Rattle.vd_literals.specs.declared.quoted.Before.TheVariants.{Start, Character, Underscore}
use Rattle.vd_literals.specs.declared.quoted.Role.{Role}
use Rattle.vd_literals.specs.declared.quoted.Role.TheVariants.{Stops, Ends, Goes, MayEnd, Doubled}
use Rattle.vd_literals.specs.declared.bits.Sign.{Sign}
use Rattle.vd_literals.specs.declared.bits.Sign.TheVariants.{Plain, Unsigned, Signed}
use Rattle.vd_literals.specs.declared.bits.Base.{Base}
use Rattle.vd_literals.specs.declared.bits.BitsForm.{BitsForm}
use Rattle.vd_literals.specs.declared.bits.BitsForm.TheVariants as bits
use Rattle.vd_literals.specs.declared.numbers.NumberItem.{NumberItem}
use Rattle.vd_literals.specs.declared.numbers.NumberItem.TheVariants as number
use Rattle.vd_literals.specs.declared.numbers.NumberForm.{NumberForm}
use Rattle.vd_literals.specs.declared.numbers.NumberForm.TheVariants as form
use Rattle.vd_literals.specs.declared.numbers.Exponent.{Exponent}
use Rattle.vd_literals.specs.declared.numbers.Exponent.TheVariants as exponent
use Rattle.vd_literals.specs.Values.{bounded, value_of, is_below}
use Rattle.vd_literals.specs.Numbers.{base_of, is_base, raised, number_value, item_of, with_exponent, with_form, number_form, number_at, exponent_at}
use Rattle.vd_literals.specs.Quoted.{shifted, first_some, begins_with, may_close, is_character, at_mark, at_underscore, role_of, marks_end, undoubled}
use Rattle.vd_literals.specs.Bits.{form_from, base_at, bits_form, binary, is_digit_in, elements_of, is_element, elements, is_taken, padded, is_cut_of, cut, sized, bits_text}
use Rattle.vd_literals.proofs.QuotedLemmas.{by_role, marks_end-role}

-- ---- numbers

abbrev ValueFine : Option ℕ → Type 0
ValueFine None = Unit {0}
ValueFine (Some v) = v ≤ greatest_integer

abbrev pub NumberFine : NumberItem → Type 0
NumberFine (number.Whole n v) = v ≤ greatest_integer
NumberFine number.OutOfRange = Unit {0}
NumberFine number.Real = Unit {0}

bounded_fine : (n : ℕ) → ValueFine (bounded n)
bounded_fine n = cond_both (leb n greatest_integer) (Some n) None ValueFine (λ t. leb-true n greatest_integer t) (λ t. tt)

raised_fine : (base : ℕ) (ds : List ℕ) (e : ℕ) → ValueFine (raised base ds e)
raised_fine base ds e = cond_both (is_base base && list_all (is_below base) ds) (bounded (value_of base ds * base ^ e)) None ValueFine (λ t. bounded_fine (value_of base ds * base ^ e)) (λ t. tt)

item_fine : (n : ℕ) (o : Option ℕ) → ValueFine o → NumberFine (item_of n o)
item_fine n None h = tt
item_fine n (Some v) h = h

exponent_fine : (text : List ℕ) (base start end behind : ℕ) (e : Exponent) → NumberFine (with_exponent text base start end behind e)
exponent_fine text base start end behind exponent.Absent = item_fine behind (number_value (take base text) (slice_range text start end) []) (raised_fine (base_of (take base text)) (slice_range text start end) (value_of 10 []))
exponent_fine text base start end behind (exponent.Positive first last) =
    item_fine (behind + last) (number_value (take base text) (slice_range text start end) (slice_range (drop behind text) first last))
    (raised_fine (base_of (take base text)) (slice_range text start end) (value_of 10 (slice_range (drop behind text) first last)))
exponent_fine text base start end behind exponent.Negative = tt

form_fine : (text : List ℕ) (f : NumberForm) → NumberFine (with_form text f)
form_fine text form.Real = tt
form_fine text (form.Whole base start end behind) = exponent_fine text base start end behind (exponent_at (drop behind text))

pub number_fine : (text : List ℕ) → NumberFine (number_at text)
number_fine text = form_fine text (number_form text)

-- ---- texts in marks

-- each byte in front of the last mark is graphic
abbrev pub EndFine : List ℕ → Option ℕ → Type 0
EndFine bs None = Unit {0}
EndFine bs (Some n) = (0 < n) × (list_all is_graphic (take (n - 1) bs) ≡ true)

mark_is_graphic : (b : ℕ) → eqb b 34 ≡ true → is_graphic b ≡ true
mark_is_graphic b e = grind (arith, nat_tests)

-- what the role of a byte says of it
abbrev RoleSays : ℕ → List ℕ → Role → Type 0
RoleSays b bs Stops = Unit {0}
RoleSays b bs Ends = Unit {0}
RoleSays b bs (Goes next) = is_graphic b ≡ true
RoleSays b bs MayEnd = (is_graphic b ≡ true) × (begins_with 34 bs ≡ true)
RoleSays b bs Doubled = (is_graphic b ≡ true) × (begins_with 34 bs ≡ true)

underscore_is_graphic : (t : Bool) (b : ℕ) → (t && eqb b 95) ≡ true → is_graphic b ≡ true
underscore_is_graphic t b e = let p = and_parts t (eqb b 95) e in let q = p.1 in under b q
  where
    under : (c : ℕ) → eqb c 95 ≡ true → is_graphic c ≡ true
    under c f = grind (arith, nat_tests)

mark_says : (s : Before) (b : ℕ) (bs : List ℕ) → is_graphic b ≡ true → RoleSays b bs (at_mark s bs)
mark_says s b bs g =
    cond_both (begins_with 34 bs) (cond (may_close s) MayEnd Doubled) (cond (may_close s) Ends Stops) (RoleSays b bs)
    (λ t. cond_both (may_close s) MayEnd Doubled (RoleSays b bs) (λ u. (g, t)) (λ u. (g, t)))
    (λ t. cond_both (may_close s) Ends Stops (RoleSays b bs) (λ u. tt) (λ u. tt))

role_says : (t : Bool) (s : Before) (b : ℕ) (bs : List ℕ) → RoleSays b bs (role_of t s (b ∷ bs))
role_says t s b bs =
    cond_both (eqb b 34) (at_mark s bs) (cond (t && eqb b 95) (at_underscore s) (cond (is_graphic b) (Goes Character) Stops)) (RoleSays b bs)
    (λ e. mark_says s b bs (mark_is_graphic b e))
    (λ e. cond_both (t && eqb b 95) (at_underscore s) (cond (is_graphic b) (Goes Character) Stops) (RoleSays b bs)
    (λ u. cond_both (is_character s) (Goes Underscore) Stops (RoleSays b bs) (λ v. underscore_is_graphic t b u) (λ v. tt))
    (λ u. cond_both (is_graphic b) (Goes Character) Stops (RoleSays b bs) (λ v. v) (λ v. tt)))

take_suc : (n b : ℕ) (bs : List ℕ) → 0 < n → take (1 + n - 1) (b ∷ bs) ≡ b ∷ take (n - 1) bs
take_suc zero b bs h = absurd (omega arith)
take_suc (suc n) b bs h = let e : 1 + suc n - 1 ≡ suc n = omega arith in let f : suc n - 1 ≡ n = omega arith in rw (e, f) refl

take_two : (n b c : ℕ) (bs : List ℕ) → 0 < n → take (2 + n - 1) (b ∷ c ∷ bs) ≡ b ∷ c ∷ take (n - 1) bs
take_two zero b c bs h = absurd (omega arith)
take_two (suc n) b c bs h = let e : 2 + suc n - 1 ≡ suc (suc n) = omega arith in let f : suc n - 1 ≡ n = omega arith in rw (e, f) refl

one_more : (b : ℕ) (bs : List ℕ) (o : Option ℕ) → is_graphic b ≡ true → EndFine bs o → EndFine (b ∷ bs) (shifted 1 o)
one_more b bs None g h = tt
one_more b bs (Some n) g h = (omega arith, ap (list_all is_graphic) (take_suc n b bs h.0) ∙ and_from (is_graphic b) _ g h.1)

two_more : (b c : ℕ) (bs : List ℕ) (o : Option ℕ) → is_graphic b ≡ true → is_graphic c ≡ true → EndFine bs o → EndFine (b ∷ c ∷ bs) (shifted 2 o)
two_more b c bs None g k h = tt
two_more b c bs (Some n) g k h = (omega arith, ap (list_all is_graphic) (take_two n b c bs h.0) ∙ and_from (is_graphic b) _ g (and_from (is_graphic c) _ k h.1))

at_once : (bs : List ℕ) → EndFine bs (Some 1)
at_once bs = (omega arith, refl)

first_fine : (bs : List ℕ) (o p : Option ℕ) → EndFine bs o → EndFine bs p → EndFine bs (first_some o p)
first_fine bs None p h k = k
first_fine bs (Some n) p h k = h

role_one : (t : Bool) (b : ℕ) (r : Role) → RoleSays b [] r → EndFine (b ∷ []) (by_role t (b ∷ []) r)
role_one t b Stops h = tt
role_one t b Ends h = at_once (b ∷ [])
role_one t b (Goes next) h = tt
role_one t b MayEnd h = absurd (true≢false (sym h.1))
role_one t b Doubled h = absurd (true≢false (sym h.1))

role_two : (t : Bool) (b c : ℕ) (cs : List ℕ) (r : Role) → RoleSays b (c ∷ cs) r → ((s : Before) → EndFine (c ∷ cs) (marks_end t s (c ∷ cs))) → EndFine cs (marks_end t Character cs)
    → EndFine (b ∷ c ∷ cs) (by_role t (b ∷ c ∷ cs) r)
role_two t b c cs Stops h one two = tt
role_two t b c cs Ends h one two = at_once (b ∷ c ∷ cs)
role_two t b c cs (Goes next) h one two = one_more b (c ∷ cs) (marks_end t next (c ∷ cs)) h (one next)
role_two t b c cs MayEnd h one two =
    first_fine (b ∷ c ∷ cs) (shifted 2 (marks_end t Character cs)) (Some 1) (two_more b c cs (marks_end t Character cs) h.0 (mark_is_graphic c h.1) two) (at_once (b ∷ c ∷ cs))
role_two t b c cs Doubled h one two = two_more b c cs (marks_end t Character cs) h.0 (mark_is_graphic c h.1) two

pub end_fine : (t : Bool) (s : Before) (bs : List ℕ) → EndFine bs (marks_end t s bs)
end_fine t s [] = tt
end_fine t s (b ∷ []) = subst (EndFine (b ∷ [])) (sym (marks_end-role t s (b ∷ []) (omega arith))) (role_one t b (role_of t s (b ∷ [])) (role_says t s b []))
end_fine t s (b ∷ c ∷ cs) =
    subst (EndFine (b ∷ c ∷ cs)) (sym (marks_end-role t s (b ∷ c ∷ cs) (omega arith)))
    (role_two t b c cs (role_of t s (b ∷ c ∷ cs)) (role_says t s b (c ∷ cs)) (λ u. end_fine t u (c ∷ cs)) (end_fine t Character cs))

pub all_undoubled : (p : ℕ → Bool) (bs : List ℕ) → list_all p bs ≡ true → list_all p (undoubled bs) ≡ true
all_undoubled p [] h = refl
all_undoubled p (b ∷ []) h = h
all_undoubled p (b ∷ c ∷ cs) h =
    let k = and_parts (p b) (list_all p (c ∷ cs)) h in
    by (eqb b 34) (all_undoubled p cs (and_parts (p c) (list_all p cs) k.1).1) (all_undoubled p (c ∷ cs) k.1) k.0
  where
    by : (t : Bool) → list_all p (undoubled cs) ≡ true → list_all p (undoubled (c ∷ cs)) ≡ true → p b ≡ true
        → list_all p (elim t as (λ _. List ℕ) [ true ↦ b ∷ undoubled cs | false ↦ b ∷ undoubled (c ∷ cs) ]) ≡ true
    by true two one g = and_from (p b) _ g two
    by false two one g = and_from (p b) _ g one

-- ---- bits

abbrev pub BodyFine : List ℕ → BitsForm → Type 0
BodyFine text bits.Absent = Unit {0}
BodyFine text bits.Unended = Unit {0}
BodyFine text (bits.Whole sign width start end) = list_all is_graphic (slice_range text start end) ≡ true

with_fine : (text : List ℕ) (sign : Sign) (width start : ℕ) (o p : Option ℕ) → EndFine (drop start text) o
    → BodyFine text (elim o as (λ _. BitsForm) [ Some n ↦ bits.Whole sign width start (start + n - 1) | None ↦ elim p as (λ _. BitsForm) [ Some n ↦ bits.Absent | None ↦ bits.Unended ] ])
with_fine text sign width start None None h = tt
with_fine text sign width start None (Some m) h = tt
with_fine text sign width start (Some n) p h = let e : start + n - 1 - start ≡ n - 1 = omega (arith, h.0) in ap (λ k. list_all is_graphic (take k (drop start text))) e ∙ h.1

from_fine : (text : List ℕ) (n : ℕ) (o : Option Base) → BodyFine text (form_from text n o)
from_fine text n None = tt
from_fine text n (Some base) =
    let start = n + base.letters + 1 in
    with_fine text base.sign base.width start (marks_end true Start (drop start text)) (marks_end false Start (drop start text)) (end_fine true Start (drop start text))

pub body_fine : (r : Revision) (n : ℕ) (text : List ℕ) → BodyFine text (bits_form r n text)
body_fine r n text = from_fine text n (base_at r (drop n text))

module _ (r : Revision) where
  two_values : (q : Revision) (y : ℕ) → y < 2 → is_bit q (48 + y) ≡ true
  two_values V2019 zero h = refl
  two_values V1993 zero h = refl
  two_values V2019 (suc zero) h = refl
  two_values V1993 (suc zero) h = refl
  two_values q (suc (suc y)) h = absurd (omega arith)

  binary_fine : (k n : ℕ) → list_all (is_bit r) (binary k n) ≡ true
  binary_fine zero n = refl
  binary_fine (suc k) n = and_from (is_bit r (48 + n / 2 ^ k % 2)) _ (two_values r (n / 2 ^ k % 2) (omega arith)) (binary_fine k n)

  copies_fine : (k b : ℕ) → is_bit r b ≡ true → list_all (is_bit r) (replicate k b) ≡ true
  copies_fine zero b h = refl
  copies_fine (suc k) b h = and_from (is_bit r b) _ h (copies_fine k b h)

  -- a character that is no digit of the base
  other_bit : (q : Revision) (width b : ℕ) → is_graphic b ≡ true → is_taken q width b ≡ true → is_element b ≡ true → is_digit_in width b ≡ false → is_bit q b ≡ true
  other_bit V2019 width b g t e d = and_from (is_graphic b) _ g e
  other_bit V1993 width b g t e d = absurd (true≢false (sym t ∙ (ap (λ u. u || is_digit_in width b) (not-true (eqb b 95) e) ∙ d)))

  character_fine : (width b : ℕ) → is_graphic b ≡ true → is_taken r width b ≡ true → is_element b ≡ true → list_all (is_bit r) (elements_of width b) ≡ true
  character_fine width b g t e =
      cond_both (is_digit_in width b) (binary width (digit_value b)) (replicate width b) (λ xs. list_all (is_bit r) xs ≡ true) (λ d. binary_fine width (digit_value b)) (λ d. copies_fine width b (other_bit r width b g t e d))

  joined_fine : (xs ys : List ℕ) → list_all (is_bit r) xs ≡ true → list_all (is_bit r) ys ≡ true → list_all (is_bit r) (xs ++ ys) ≡ true
  joined_fine xs ys h k = list_all-append (is_bit r) xs ys ∙ and_from (list_all (is_bit r) xs) _ h k

  elements_fine : (width : ℕ) (cs : List ℕ) → list_all is_graphic cs ≡ true → list_all (is_taken r width) cs ≡ true → list_all (is_bit r) (elements width cs) ≡ true
  elements_fine width [] g t = refl
  elements_fine width (c ∷ cs) g t =
      let p = and_parts (is_graphic c) (list_all is_graphic cs) g in
      let q = and_parts (is_taken r width c) (list_all (is_taken r width) cs) t in
      by (is_element c) refl p.0 q.0 (elements_fine width cs p.1 q.1)
    where
      by : (u : Bool) → is_element c ≡ u → is_graphic c ≡ true → is_taken r width c ≡ true → list_all (is_bit r) (elements width cs) ≡ true
          → list_all (is_bit r) (flat_map (elements_of width) (cond u (c ∷ filter is_element cs) (filter is_element cs))) ≡ true
      by true e h k rest = joined_fine (elements_of width c) (elements width cs) (character_fine width c h k e) rest
      by false e h k rest = rest

  abbrev pub TextFine : Option (List ℕ) → Type 0
  TextFine None = Unit {0}
  TextFine (Some text) = list_all (is_bit r) text ≡ true

  zero_bit : (q : Revision) → is_bit q 48 ≡ true
  zero_bit V2019 = refl
  zero_bit V1993 = refl

  padded_fine : (sign : Sign) (k : ℕ) (es : List ℕ) → list_all (is_bit r) es ≡ true → TextFine (padded sign k es)
  padded_fine Plain k es h = joined_fine (replicate k 48) es (copies_fine k 48 (zero_bit r)) h
  padded_fine Unsigned k es h = joined_fine (replicate k 48) es (copies_fine k 48 (zero_bit r)) h
  padded_fine Signed k [] h = tt
  padded_fine Signed k (e ∷ es) h = joined_fine (replicate k e) (e ∷ es) (copies_fine k e (and_parts (is_bit r e) (list_all (is_bit r) es) h).0) h

  dropped_fine : (k : ℕ) (es : List ℕ) → list_all (is_bit r) es ≡ true → list_all (is_bit r) (drop k es) ≡ true
  dropped_fine zero es h = h
  dropped_fine (suc k) [] h = refl
  dropped_fine (suc k) (e ∷ es) h = dropped_fine k es (and_parts (is_bit r e) (list_all (is_bit r) es) h).1

  cut_fine : (sign : Sign) (k : ℕ) (es : List ℕ) → list_all (is_bit r) es ≡ true → TextFine (cut sign k es)
  cut_fine sign k es h = cond_both (is_cut_of sign (take k es) (drop k es)) (Some (drop k es)) None TextFine (λ t. dropped_fine k es h) (λ t. tt)

  sized_fine : (sign : Sign) (size : Option ℕ) (es : List ℕ) → list_all (is_bit r) es ≡ true → TextFine (sized sign size es)
  sized_fine sign None es h = h
  sized_fine sign (Some n) es h =
      cond_both (ltb (length es) n) (padded sign (n - length es) es) (cond (ltb n (length es)) (cut sign (length es - n) es) (Some es)) TextFine (λ t. padded_fine sign (n - length es) es h)
      (λ t. cond_both (ltb n (length es)) (cut sign (length es - n) es) (Some es) TextFine (λ u. cut_fine sign (length es - n) es h) (λ u. h))

  pub text_fine : (sign : Sign) (width : ℕ) (size : Option ℕ) (cs : List ℕ) → list_all is_graphic cs ≡ true → TextFine (bits_text r sign width size cs)
  text_fine sign width size cs g =
      cond_both (ltb 0 width && list_all (is_taken r width) cs) (sized sign size (elements width cs)) None TextFine
      (λ t. sized_fine sign size (elements width cs) (elements_fine width cs g (and_parts (ltb 0 width) (list_all (is_taken r width) cs) t).1)) (λ t. tt)
