-- What each token of a token list can be.
use Rattle.std.proofs.Common.{◌≡◌, ℕ, ◌+◌, Bool, true, false, cond, eqb, ◌&&◌, ◌||◌, List, [], ◌∷◌, take, drop, Option, Some, None, is_none, ⊎_elim, refl, sym, ap, ◌∙◌, subst, arith}
use Rattle.std.specs.Str.{bytes_eq}
use Rattle.std.proofs.Math.Numerals.{one-add}
use Rattle.std.proofs.lemmas.Bool.{and_parts, and_from, or_cases, or_left, or_right, cond_both}
use Rattle.std.proofs.lemmas.Bool.Decides.{nat_tests}
use Rattle.std.proofs.lemmas.List.Quantifiers.{position-Some}
use Rattle.std.proofs.lemmas.Slice.Eq.{bytes_eq-Decides}
use Rattle.vd_trees.specs.declared.revision.Revision.{Revision}
use Rattle.vd_trees.specs.Identifiers.{is_letter, is_letter_or_digit, starts_with_letter_or_digit, is_name_rest, is_name, lower, lowered, place_among, is_identifier}
use Rattle.vd_trees.specs.Words.{reserved_words}
use Rattle.vd_tokens.specs.declared.kinds.Kind.TheVariants as kind
use Rattle.vd_tokens.specs.Spellings.{IsTextOf}
use Rattle.vd_literals.specs.Runs.{is_part, starts_with_part, goes_on, more_length}
use Rattle.vd_literals.specs.Quoted.{begins_with}
use Rattle.vd_lex.specs.Items.{Item, token, broken, name_item, word_item}

-- a token whose text is one of its kind, and not the end
abbrev pub ItemFine : Revision → Item → Type 0
ItemFine r (token n k text) = IsTextOf r k text × (k ≡ kind.End → ⊥)
ItemFine r (broken k rule) = Unit {0}

-- ---- lower case

lower-lower : (b : ℕ) → lower (lower b) ≡ lower b
lower-lower b = grind (arith, nat_tests)

is_letter-lower : (b : ℕ) → is_letter (lower b) ≡ is_letter b
is_letter-lower b = grind (arith, nat_tests)

is_letter_or_digit-lower : (b : ℕ) → is_letter_or_digit (lower b) ≡ is_letter_or_digit b
is_letter_or_digit-lower b = grind (arith, nat_tests)

underscore-lower : (b : ℕ) → eqb (lower b) 95 ≡ eqb b 95
underscore-lower b = grind (arith, nat_tests)

starts-lowered : (bs : List ℕ) → starts_with_letter_or_digit (lowered bs) ≡ starts_with_letter_or_digit bs
starts-lowered [] = refl
starts-lowered (b ∷ bs) = is_letter_or_digit-lower b

is_name_rest-lowered : (bs : List ℕ) → is_name_rest (lowered bs) ≡ is_name_rest bs
is_name_rest-lowered [] = refl
is_name_rest-lowered (b ∷ bs) =
    rw (is_letter_or_digit-lower b, underscore-lower b, starts-lowered bs, is_name_rest-lowered bs) refl

is_name-lowered : (bs : List ℕ) → is_name (lowered bs) ≡ is_name bs
is_name-lowered [] = refl
is_name-lowered (b ∷ bs) = rw (is_letter-lower b, is_name_rest-lowered bs) refl

pub lowered-lowered : (bs : List ℕ) → lowered (lowered bs) ≡ lowered bs
lowered-lowered [] = refl
lowered-lowered (b ∷ bs) = rw (lower-lower b, lowered-lowered bs) refl

-- ---- names

pub is_part-letters : (b : ℕ) → is_part true b ≡ is_letter_or_digit b
is_part-letters b = grind (arith, nat_tests)

pub starts-part : (bs : List ℕ) → starts_with_part true bs ≡ starts_with_letter_or_digit bs
starts-part [] = refl
starts-part (b ∷ bs) = is_part-letters b

-- what starts with a letter or a digit still does where its front is cut off
starts_within : (bs : List ℕ) → starts_with_part true bs ≡ true → starts_with_letter_or_digit (take (more_length true bs) bs) ≡ true
starts_within [] h = h
starts_within (b ∷ bs) h =
    let goes : goes_on true (b ∷ bs) ≡ true = or_left (is_part true b) (eqb b 95 && starts_with_part true bs) h in
    subst (λ t. starts_with_letter_or_digit (take (cond t (1 + more_length true bs) 0) (b ∷ bs)) ≡ true) (sym goes)
    (subst (λ k. starts_with_letter_or_digit (take k (b ∷ bs)) ≡ true) (sym (one-add (more_length true bs))) (sym (is_part-letters b) ∙ h))

goes_on_within : (b : ℕ) (bs : List ℕ) → goes_on true (b ∷ bs) ≡ true → (is_letter_or_digit b || (eqb b 95 && starts_with_letter_or_digit (take (more_length true bs) bs))) ≡ true
goes_on_within b bs e =
    ⊎_elim
    (λ l. or_left (is_letter_or_digit b) _ (sym (is_part-letters b) ∙ l))
    (λ r. let p = and_parts (eqb b 95) (starts_with_part true bs) r in or_right (is_letter_or_digit b) _ (and_from (eqb b 95) _ p.0 (starts_within bs p.1)))
    (or_cases (is_part true b) (eqb b 95 && starts_with_part true bs) e)

rest_is_name : (bs : List ℕ) → is_name_rest (take (more_length true bs) bs) ≡ true
rest_is_name [] = refl
rest_is_name (b ∷ bs) = by (goes_on true (b ∷ bs)) refl (rest_is_name bs)
  where
    by : (t : Bool) → goes_on true (b ∷ bs) ≡ t → is_name_rest (take (more_length true bs) bs) ≡ true → is_name_rest (take (cond t (1 + more_length true bs) 0) (b ∷ bs)) ≡ true
    by true e h =
        subst (λ k. is_name_rest (take k (b ∷ bs)) ≡ true) (sym (one-add (more_length true bs)))
        (and_from (is_letter_or_digit b || (eqb b 95 && starts_with_letter_or_digit (take (more_length true bs) bs))) _ (goes_on_within b bs e) h)
    by false e h = refl

module _ (r : Revision) where
  identifier : (text : List ℕ) → is_name text ≡ true → place_among (reserved_words r) (lowered text) ≡ None → is_identifier r (lowered text) ≡ true
  identifier text name free =
      and_from (is_name (lowered text)) _ (is_name-lowered text ∙ name)
      (and_from (bytes_eq (lowered (lowered text)) (lowered text)) _ ((bytes_eq-Decides (lowered (lowered text)) (lowered text)).1 (lowered-lowered text)) (ap is_none free))

  name_fine : (n : ℕ) (text : List ℕ) (o : Option ℕ) → is_name text ≡ true → place_among (reserved_words r) (lowered text) ≡ o → ItemFine r (name_item n text o)
  name_fine n text None name e = (identifier text name e, λ x. cc)
  name_fine n text (Some w) name e = ((let p = position-Some (λ t. bytes_eq (lowered text) t) (reserved_words r) w [] e in (p.0, refl)), λ x. cc)

  pub word_fine : (b : ℕ) (bs : List ℕ) → is_letter b ≡ true → ItemFine r (word_item r (1 + more_length true bs) (b ∷ bs))
  word_fine b bs l =
      let n = 1 + more_length true bs in
      let name : is_name (take n (b ∷ bs)) ≡ true = subst (λ k. is_name (take k (b ∷ bs)) ≡ true) (sym (one-add (more_length true bs))) (and_from (is_letter b) _ l (rest_is_name bs)) in
      cond_both (begins_with 95 (drop n (b ∷ bs))) (broken None 103) (name_item n (take n (b ∷ bs)) (place_among (reserved_words r) (lowered (take n (b ∷ bs))))) (ItemFine r) (λ t. tt)
      (λ t. name_fine n (take n (b ∷ bs)) (place_among (reserved_words r) (lowered (take n (b ∷ bs)))) name refl)
