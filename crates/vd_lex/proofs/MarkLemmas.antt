-- What a token's bytes are read as: texts in marks, letters, bits.
use Rattle.std.proofs.Common.{◌≡◌, ℕ, suc, ◌+◌, ◌-◌, ◌/◌, ◌%◌, Bool, true, false, cond, eqb, ltb, not, ◌&&◌, ◌||◌, List, [], ◌∷◌, ◌++◌, length, take, replicate, Some, None, refl, sym, ap, ◌∙◌, arith}
use Rattle.std.specs.List.{list_all, flat_map}
use Rattle.std.specs.Prelude.{filter}
use Rattle.std.specs.Char.{digit_value}
use Rattle.std.proofs.Math.Seq.{take-append_seam}
use Rattle.std.proofs.lemmas.Bool.{and_parts, and_from, cond-true, cond-false, not-true, eqb-true}
use Rattle.std.proofs.lemmas.Bool.Decides.{nat_tests}
use Rattle.vd_trees.specs.declared.revision.Revision.{Revision}
use Rattle.vd_trees.specs.declared.revision.Revision.TheVariants.{V2019, V1993}
use Rattle.vd_tokens.specs.declared.kinds.Kind.TheVariants as kind
use Rattle.vd_tokens.specs.Spellings.{doubled, is_graphic, is_bit}
use Rattle.vd_literals.specs.declared.quoted.Before.{Before}
use Rattle.vd_literals.specs.declared.quoted.Before.TheVariants.{Start, Character}
use Rattle.vd_literals.specs.declared.quoted.Role.TheVariants.{Stops, Ends, Goes, MayEnd}
use Rattle.vd_literals.specs.declared.bits.Sign.TheVariants.{Plain}
use Rattle.vd_literals.specs.Quoted.{shifted, first_some, begins_with, may_close, at_mark, at_underscore, role_of, marks_end, undoubled}
use Rattle.vd_literals.specs.Bits.{binary, is_digit_in, elements_of, is_element, elements, is_taken, bits_text}
use Rattle.vd_literals.proofs.QuotedLemmas.{by_role, marks_end-role}
use Rattle.vd_literals.proofs.BitsLemmas.{takes_all}
use Rattle.vd_lex.specs.Items.{token, quoted_item}

-- the byte goes on with a text in marks, in which underscores count or don't
abbrev pub goes_in : Bool → ℕ → Bool
goes_in t b = is_graphic b && not (t && eqb b 95)

inner_role : (t : Bool) (s : Before) (b : ℕ) (bs : List ℕ) → eqb b 34 ≡ false → goes_in t b ≡ true → role_of t s (b ∷ bs) ≡ Goes Character
inner_role t s b bs e g =
    let p = and_parts (is_graphic b) (not (t && eqb b 95)) g in
    cond-false (eqb b 34) (at_mark s bs) (cond (t && eqb b 95) (at_underscore s) (cond (is_graphic b) (Goes Character) Stops)) e
    ∙ (cond-false (t && eqb b 95) (at_underscore s) (cond (is_graphic b) (Goes Character) Stops) (not-true (t && eqb b 95) p.1) ∙ cond-true (is_graphic b) (Goes Character) Stops p.0)

mark_role : (t : Bool) (s : Before) (bs : List ℕ) → may_close s ≡ true → role_of t s (34 ∷ 34 ∷ bs) ≡ MayEnd
mark_role t s bs e = rw (e) refl

last_role : (t : Bool) (s : Before) (after : List ℕ) → may_close s ≡ true → begins_with 34 after ≡ false → role_of t s (34 ∷ after) ≡ Ends
last_role t s after e f = rw (f, e) refl

doubled-mark : (b : ℕ) (bs : List ℕ) → eqb b 34 ≡ true → doubled (b ∷ bs) ≡ 34 ∷ 34 ∷ doubled bs
doubled-mark b bs e = cond-true (eqb b 34) (b ∷ b ∷ doubled bs) (b ∷ doubled bs) e ∙ ap (λ c. c ∷ c ∷ doubled bs) (eqb-true b 34 e)

doubled-other : (b : ℕ) (bs : List ℕ) → eqb b 34 ≡ false → doubled (b ∷ bs) ≡ b ∷ doubled bs
doubled-other b bs e = cond-false (eqb b 34) (b ∷ b ∷ doubled bs) (b ∷ doubled bs) e

two_on : (n : ℕ) → Some (2 + (n + 1)) ≡ Some (suc (suc n) + 1)
two_on n = ap Some (omega arith)

one_on : (n : ℕ) → Some (1 + (n + 1)) ≡ Some (suc n + 1)
one_on n = ap Some (omega arith)

-- the text ends at its last mark
pub whole_end : (t : Bool) (s : Before) (text after : List ℕ) → begins_with 34 after ≡ false → may_close s ≡ true → list_all (goes_in t) text ≡ true → marks_end t s (doubled text ++ 34 ∷ after) ≡ Some (length (doubled text) + 1)
whole_end t s [] after o c g = marks_end-role t s (34 ∷ after) (omega arith) ∙ ap (by_role t (34 ∷ after)) (last_role t s after c o)
whole_end t s (b ∷ bs) after o c g =
    let p = and_parts (goes_in t b) (list_all (goes_in t) bs) g in
    by (eqb b 34) refl p.0 (whole_end t Character bs after o refl p.1)
  where
    by : (u : Bool) → eqb b 34 ≡ u → goes_in t b ≡ true → marks_end t Character (doubled bs ++ 34 ∷ after) ≡ Some (length (doubled bs) + 1)
        → marks_end t s (doubled (b ∷ bs) ++ 34 ∷ after) ≡ Some (length (doubled (b ∷ bs)) + 1)
    by true e h k =
        ap (λ xs. marks_end t s (xs ++ 34 ∷ after)) (doubled-mark b bs e)
        ∙ (marks_end-role t s (34 ∷ 34 ∷ (doubled bs ++ 34 ∷ after)) (omega arith)
        ∙ (ap (by_role t (34 ∷ 34 ∷ (doubled bs ++ 34 ∷ after))) (mark_role t s (doubled bs ++ 34 ∷ after) c)
        ∙ (ap (λ o. first_some (shifted 2 o) (Some 1)) k
        ∙ (two_on (length (doubled bs)) ∙ ap (λ xs. Some (length xs + 1)) (sym (doubled-mark b bs e))))))
    by false e h k =
        ap (λ xs. marks_end t s (xs ++ 34 ∷ after)) (doubled-other b bs e)
        ∙ (marks_end-role t s (b ∷ (doubled bs ++ 34 ∷ after)) (omega arith)
        ∙ (ap (by_role t (b ∷ (doubled bs ++ 34 ∷ after))) (inner_role t s b (doubled bs ++ 34 ∷ after) e h)
        ∙ (ap (shifted 1) k
        ∙ (one_on (length (doubled bs)) ∙ ap (λ xs. Some (length xs + 1)) (sym (doubled-other b bs e))))))

undoubled-mark : (bs : List ℕ) → undoubled (34 ∷ 34 ∷ bs) ≡ 34 ∷ undoubled bs
undoubled-mark bs = refl

undoubled-other : (b : ℕ) (bs : List ℕ) → eqb b 34 ≡ false → undoubled (b ∷ bs) ≡ b ∷ undoubled bs
undoubled-other b [] e = refl
undoubled-other b (c ∷ cs) e = ap (λ t. elim t as (λ _. List ℕ) [ true ↦ b ∷ undoubled cs | false ↦ b ∷ undoubled (c ∷ cs) ]) e

pub undoubled-doubled : (text : List ℕ) → undoubled (doubled text) ≡ text
undoubled-doubled [] = refl
undoubled-doubled (b ∷ bs) = by (eqb b 34) refl (undoubled-doubled bs)
  where
    by : (u : Bool) → eqb b 34 ≡ u → undoubled (doubled bs) ≡ bs → undoubled (doubled (b ∷ bs)) ≡ b ∷ bs
    by true e k = ap undoubled (doubled-mark b bs e) ∙ (ap (λ xs. 34 ∷ xs) k ∙ ap (λ c. c ∷ bs) (sym (eqb-true b 34 e)))
    by false e k = ap undoubled (doubled-other b bs e) ∙ (undoubled-other b (doubled bs) e ∙ ap (λ xs. b ∷ xs) k)

one_less : (n : ℕ) → n + 1 - 1 ≡ n
one_less n = omega arith

pub body_is : (text after : List ℕ) → undoubled (take (length (doubled text) + 1 - 1) (doubled text ++ 34 ∷ after)) ≡ text
body_is text after =
    ap (λ n. undoubled (take n (doubled text ++ 34 ∷ after))) (one_less (length (doubled text)))
    ∙ (ap undoubled (take-append_seam (doubled text) (34 ∷ after)) ∙ undoubled-doubled text)

quoted_goes : (text : List ℕ) → list_all is_graphic text ≡ true → list_all (goes_in false) text ≡ true
quoted_goes [] h = refl
quoted_goes (b ∷ bs) h = let p = and_parts (is_graphic b) (list_all is_graphic bs) h in and_from (goes_in false b) _ (and_from (is_graphic b) true p.0 refl) (quoted_goes bs p.1)

-- a text in marks is read whole
pub quoted_whole : (text after : List ℕ) → begins_with 34 after ≡ false → list_all is_graphic text ≡ true
    → quoted_item (doubled text ++ 34 ∷ after) (marks_end false Start (doubled text ++ 34 ∷ after)) ≡ token (1 + (length (doubled text) + 1)) kind.Quoted text
quoted_whole text after o g =
    ap (quoted_item (doubled text ++ 34 ∷ after)) (whole_end false Start text after o refl (quoted_goes text g)) ∙ ap (token (1 + (length (doubled text) + 1)) kind.Quoted) (body_is text after)

-- ---- bits

bit_goes : (r : Revision) (b : ℕ) → is_bit r b ≡ true → goes_in true b ≡ true
bit_goes V2019 b h = h
bit_goes V1993 b h = zero_or_one b h
  where
    zero_or_one : (c : ℕ) → (eqb c 48 || eqb c 49) ≡ true → goes_in true c ≡ true
    zero_or_one c e = grind (arith, nat_tests)

pub bits_go : (r : Revision) (text : List ℕ) → list_all (is_bit r) text ≡ true → list_all (goes_in true) text ≡ true
bits_go r [] h = refl
bits_go r (b ∷ bs) h = let p = and_parts (is_bit r b) (list_all (is_bit r) bs) h in and_from (goes_in true b) _ (bit_goes r b p.0) (bits_go r bs p.1)

digit_bit : (b : ℕ) → ltb (digit_value b) 2 ≡ true → 48 + digit_value b / 1 % 2 ≡ b
digit_bit b e = grind (arith, nat_tests)

same_element : (b : ℕ) → elements_of 1 b ≡ b ∷ []
same_element b = by (is_digit_in 1 b) refl
  where
    by : (t : Bool) → is_digit_in 1 b ≡ t → elements_of 1 b ≡ b ∷ []
    by true e = cond-true (is_digit_in 1 b) (binary 1 (digit_value b)) (replicate 1 b) e ∙ ap (λ c. c ∷ []) (digit_bit b e)
    by false e = cond-false (is_digit_in 1 b) (binary 1 (digit_value b)) (replicate 1 b) e

pub same_elements : (text : List ℕ) → list_all (goes_in true) text ≡ true → elements 1 text ≡ text
same_elements [] h = refl
same_elements (b ∷ bs) h =
    let p = and_parts (goes_in true b) (list_all (goes_in true) bs) h in
    ap (flat_map (elements_of 1)) (cond-true (is_element b) (b ∷ filter is_element bs) (filter is_element bs) (and_parts (is_graphic b) (is_element b) p.0).1)
    ∙ (ap (λ xs. xs ++ elements 1 bs) (same_element b) ∙ ap (λ xs. b ∷ xs) (same_elements bs p.1))

bit_taken : (b : ℕ) → (eqb b 48 || eqb b 49) ≡ true → (eqb b 95 || is_digit_in 1 b) ≡ true
bit_taken b h = grind (arith, nat_tests)

all_taken : (r : Revision) (text : List ℕ) → list_all (is_bit r) text ≡ true → list_all (is_taken r 1) text ≡ true
all_taken V2019 text h = sym (takes_all V2019 1 text refl)
all_taken V1993 [] h = refl
all_taken V1993 (b ∷ bs) h =
    let p = and_parts (is_bit V1993 b) (list_all (is_bit V1993) bs) h in
    and_from (is_taken V1993 1 b) _ (bit_taken b p.0) (all_taken V1993 bs p.1)

pub text_whole : (r : Revision) (text : List ℕ) → list_all (is_bit r) text ≡ true → bits_text r Plain 1 None text ≡ Some text
text_whole r text h = cond-true (list_all (is_taken r 1) text) (Some (elements 1 text)) None (all_taken r text h) ∙ ap Some (same_elements text (bits_go r text h))
