-- What a token's bytes are read as, in front of bytes at which it ends: names, words, numbers.
use Rattle.std.proofs.Common.{◌≡◌, ℕ, ◌+◌, ◌-◌, ◌*◌, ◌^◌, ◌<◌, ◌≤◌, Bool, true, false, eqb, ◌&&◌, ◌||◌, List, [], ◌∷◌, ◌++◌, length, take, drop, Option, Some, None, ⊎_elim, refl, ap, ◌∙◌, arith}
use Rattle.std.specs.List.{list_all}
use Rattle.std.specs.Prelude.{decimal}
use Rattle.std.specs.Char.{digit_value}
use Rattle.std.specs.Str.Parse.{digits_value, digits_value_after, AllDigits}
use Rattle.std.proofs.Math.Numerals.{one-add}
use Rattle.std.proofs.Math.Nat.{mul-one}
use Rattle.std.proofs.lemmas.Bool.{and_parts, and_from, or_cases, or_left, or_right, lt-ltb, cond-true, cond-false}
use Rattle.std.proofs.lemmas.Bool.Decides.{nat_tests}
use Rattle.std.proofs.lemmas.List.{take_at, drop_at}
use Rattle.vd_trees.specs.declared.revision.Revision.{Revision}
use Rattle.vd_trees.specs.declared.revision.Revision.TheVariants.{V2019, V1993}
use Rattle.vd_trees.specs.Identifiers.{is_letter, is_letter_or_digit, starts_with_letter_or_digit, is_name_rest, lowered, place_among}
use Rattle.vd_trees.specs.Words.{reserved_words}
use Rattle.vd_tokens.specs.declared.kinds.Kind.TheVariants as kind
use Rattle.vd_tokens.specs.Spellings.{is_digit, greatest_integer}
use Rattle.vd_literals.specs.Runs.{is_part, starts_with_part, goes_on, more_length, run_length}
use Rattle.vd_literals.specs.declared.numbers.NumberItem.TheVariants as number
use Rattle.vd_literals.specs.Values.{value_behind, value_of, is_below, bounded}
use Rattle.vd_literals.specs.Numbers.{plain, form_behind, number_form, is_base, number_value, item_of, with_exponent, with_form, exponent_at, number_at}
use Rattle.vd_literals.proofs.ValueLemmas.{bounded-fits}
use Rattle.vd_literals.specs.Quoted.{begins_with}
use Rattle.vd_literals.specs.Bits.{base_at, bits_form, form_from}
use Rattle.vd_lex.specs.Items.{Item, token, broken, name_item, word_item, number_item, letter_item, digit_item, bits_or, sized_or}
use Rattle.vd_lex.proofs.KindLemmas.{is_part-letters}
use Rattle.vd_lex.proofs.FollowLemmas.{is_stopped, no_begin, no_part, no_more, no_run, no_exponent, no_fraction, no_longer_base, base_skips, no_base_behind, no_base_there}

-- ---- names

-- no byte that goes on with a name is a quotation mark
no_mark : (b : ℕ) (t : Bool) → (is_letter_or_digit b || (eqb b 95 && t)) ≡ true → eqb b 34 ≡ false
no_mark b t e = ⊎_elim (λ l. letter b l) (λ u. under b (and_parts (eqb b 95) t u).0) (or_cases (is_letter_or_digit b) (eqb b 95 && t) e)
  where
    letter : (c : ℕ) → is_letter_or_digit c ≡ true → eqb c 34 ≡ false
    letter c f = grind (arith, nat_tests)

    under : (c : ℕ) → eqb c 95 ≡ true → eqb c 34 ≡ false
    under c f = grind (arith, nat_tests)

starts-part_before : (bs after : List ℕ) → is_stopped after ≡ true → starts_with_part true (bs ++ after) ≡ starts_with_letter_or_digit bs
starts-part_before [] after h = no_part true after h
starts-part_before (b ∷ bs) after h = is_part-letters b

goes_on-name : (b : ℕ) (bs after : List ℕ) → is_stopped after ≡ true → (is_letter_or_digit b || (eqb b 95 && starts_with_letter_or_digit bs)) ≡ true → goes_on true (b ∷ (bs ++ after)) ≡ true
goes_on-name b bs after h e = rw (is_part-letters b, starts-part_before bs after h) e

-- a whole rest of a name goes on with it, up to bytes at which it ends
more-name : (bs after : List ℕ) → is_stopped after ≡ true → is_name_rest bs ≡ true → more_length true (bs ++ after) ≡ length bs
more-name [] after h e = no_more true after h
more-name (b ∷ bs) after h e =
    let p = and_parts (is_letter_or_digit b || (eqb b 95 && starts_with_letter_or_digit bs)) (is_name_rest bs) e in
    cond-true (goes_on true (b ∷ (bs ++ after))) (1 + more_length true (bs ++ after)) 0 (goes_on-name b bs after h p.0) ∙ (ap (λ n. 1 + n) (more-name bs after h p.1) ∙ one-add (length bs))

-- no bits begin a name
no_base : (r : Revision) (b : ℕ) (bs after : List ℕ) → is_stopped after ≡ true → is_name_rest bs ≡ true → base_at r (b ∷ (bs ++ after)) ≡ None
no_base r b [] after h e = no_base_behind r b after h
no_base r b (c ∷ []) after h e =
    let p = and_parts (is_letter_or_digit c || (eqb c 95 && false)) true e in
    base_skips r b c after (no_mark c false p.0) (no_longer_base r b c after (no_begin 34 after refl h))
no_base r b (c ∷ d ∷ ds) after h e =
    let p = and_parts (is_letter_or_digit c || (eqb c 95 && is_letter_or_digit d)) (is_name_rest (d ∷ ds)) e in
    let q = and_parts (is_letter_or_digit d || (eqb d 95 && starts_with_letter_or_digit ds)) (is_name_rest ds) p.1 in
    base_skips r b c (d ∷ (ds ++ after)) (no_mark c (is_letter_or_digit d) p.0) (no_longer_base r b c (d ∷ (ds ++ after)) (no_mark d (starts_with_letter_or_digit ds) q.0))

module _ (r : Revision) (b : ℕ) (bs after : List ℕ) (h : is_stopped after ≡ true) (l : is_letter b ≡ true) (rest : is_name_rest bs ≡ true) where
  whole : 1 + more_length true (bs ++ after) ≡ length (b ∷ bs)
  whole = ap (λ n. 1 + n) (more-name bs after h rest) ∙ one-add (length bs)

  behind : drop (length (b ∷ bs)) (b ∷ (bs ++ after)) ≡ after
  behind = drop_at (b ∷ bs) after (length (b ∷ bs)) refl

  front : take (length (b ∷ bs)) (b ∷ (bs ++ after)) ≡ b ∷ bs
  front = take_at (b ∷ bs) after (length (b ∷ bs)) refl

  word_whole : word_item r (1 + more_length true (bs ++ after)) (b ∷ (bs ++ after)) ≡ name_item (length (b ∷ bs)) (b ∷ bs) (place_among (reserved_words r) (lowered (b ∷ bs)))
  word_whole =
      let n = length (b ∷ bs) in
      let text = b ∷ (bs ++ after) in
      ap (λ n. word_item r n text) whole
      ∙ (cond-false (begins_with 95 (drop n text)) (broken None 103) (name_item n (take n text) (place_among (reserved_words r) (lowered (take n text)))) (ap (begins_with 95) behind ∙ no_begin 95 after refl h)
      ∙ ap (λ t. name_item n t (place_among (reserved_words r) (lowered t))) front)

  -- a name or word is read whole
  pub letter_whole : letter_item r (b ∷ (bs ++ after)) ≡ name_item (length (b ∷ bs)) (b ∷ bs) (place_among (reserved_words r) (lowered (b ∷ bs)))
  letter_whole =
      let text = b ∷ (bs ++ after) in
      ap (λ o. bits_or r text None (word_item r (1 + more_length true (bs ++ after)) text) (form_from text 0 o)) (no_base r b bs after h rest) ∙ word_whole

-- ---- numbers

pub digit_part : (c : ℕ) → digit_value c < 10 → is_digit c ≡ true
digit_part c h = grind (arith, nat_tests)

digit_no_underscore : (c : ℕ) → digit_value c < 10 → eqb c 95 ≡ false
digit_no_underscore c h = grind (arith, nat_tests)

digits_more : (ds after : List ℕ) → is_stopped after ≡ true → AllDigits 10 ds → more_length false (ds ++ after) ≡ length ds
digits_more [] after s h = no_more false after s
digits_more (c ∷ cs) after s h =
    cond-true (goes_on false (c ∷ (cs ++ after))) (1 + more_length false (cs ++ after)) 0 (or_left (is_part false c) (eqb c 95 && starts_with_part false (cs ++ after)) (or_left (is_digit c) false (digit_part c h.0)))
    ∙ (ap (λ n. 1 + n) (digits_more cs after s h.1) ∙ one-add (length cs))

digits_run : (ds after : List ℕ) → is_stopped after ≡ true → AllDigits 10 ds → run_length false (ds ++ after) ≡ length ds
digits_run [] after s h = no_run false after s
digits_run (c ∷ cs) after s h =
    cond-true (is_part false c) (1 + more_length false (cs ++ after)) 0 (or_left (is_digit c) false (digit_part c h.0)) ∙ (ap (λ n. 1 + n) (digits_more cs after s h.1) ∙ one-add (length cs))

digits_value-behind : (n : ℕ) (ds : List ℕ) → AllDigits 10 ds → value_behind 10 n ds ≡ digits_value_after 10 n ds
digits_value-behind n [] h = refl
digits_value-behind n (c ∷ cs) h =
    ap (λ m. value_behind 10 m cs) (cond-false (eqb c 95) n (n * 10 + digit_value c) (digit_no_underscore c h.0)) ∙ digits_value-behind (n * 10 + digit_value c) cs h.1

digits_below : (ds : List ℕ) → AllDigits 10 ds → list_all (is_below 10) ds ≡ true
digits_below [] h = refl
digits_below (c ∷ cs) h = and_from (is_below 10 c) _ (or_right (eqb c 95) _ (lt-ltb (digit_value c) 10 h.0)) (digits_below cs h.1)

module _ (ds after : List ℕ) (s : is_stopped after ≡ true) (p : begins_with 46 after ≡ false) (all : AllDigits 10 ds) (v : ℕ) (value : digits_value 10 ds ≡ v) (fits : v ≤ greatest_integer) where
  behind_digits : drop (length ds) (ds ++ after) ≡ after
  behind_digits = drop_at ds after (length ds) refl

  form_whole : number_form (ds ++ after) ≡ plain (length ds)
  form_whole = ap (λ n. form_behind n (drop n (ds ++ after))) (digits_run ds after s all) ∙ (ap (form_behind (length ds)) behind_digits ∙ no_fraction (length ds) after s p)

  value_whole : number_value [] ds [] ≡ Some v
  value_whole =
      cond-true (is_base 10 && list_all (is_below 10) ds) (bounded (value_of 10 ds * 10 ^ 0)) None (digits_below ds all)
      ∙ (ap bounded (mul-one (value_of 10 ds) ∙ (digits_value-behind 0 ds all ∙ value)) ∙ bounded-fits v fits)

  number_whole : number_at (ds ++ after) ≡ number.Whole (length ds) v
  number_whole =
      ap (with_form (ds ++ after)) form_whole
      ∙ (ap (λ e. with_exponent (ds ++ after) 0 0 (length ds) (length ds) e) (ap exponent_at behind_digits ∙ no_exponent after s)
      ∙ (ap (λ t. item_of (length ds) (number_value [] t [])) (take_at ds after (length ds - 0) (omega arith)) ∙ ap (item_of (length ds)) value_whole))

  no_sized : (f : Option ℕ) (other : Item) → sized_or V2019 (ds ++ after) f other (bits_form V2019 (run_length false (ds ++ after)) (ds ++ after)) ≡ other
  no_sized f other =
      ap (λ n. sized_or V2019 (ds ++ after) f other (form_from (ds ++ after) n (base_at V2019 (drop n (ds ++ after))))) (digits_run ds after s all)
      ∙ ap (λ o. sized_or V2019 (ds ++ after) f other (form_from (ds ++ after) (length ds) o)) (ap (base_at V2019) behind_digits ∙ no_base_there V2019 after s)

  pub digit_whole : (r : Revision) → digit_item r (ds ++ after) ≡ token (length ds) kind.Number (decimal v)
  digit_whole V1993 = ap number_item number_whole
  digit_whole V2019 = no_sized (bounded (value_of 10 (take (run_length false (ds ++ after)) (ds ++ after)))) (number_item (number_at (ds ++ after))) ∙ ap number_item number_whole
