-- Texts that count from the least value on cover what the texts of the values do.
use Rattle.std.proofs.Common.{◌≡◌, ◌∷◌, ◌<◌, ℕ, zero, suc, ℤ, pos, negsuc, ◌+ℤ◌, Bool, true, false, List, [], ⊎_elim, Contains, refl, ap, ap₂, ◌∙◌, sym, subst, arith, length, get_or, IsTrue, ◌↔◌}
use Rattle.std.proofs.lemmas.Int.{ints}
use Rattle.std.specs.Prelude.{int_le, ◌&&◌, ◌||◌, IfOk, Result, Ok, Err}
use Rattle.std.specs.List.{list_any}
use Rattle.std.specs.Ordering.{int_eq}
use Rattle.vd_given_choices.proofs.CoverLemmas.{by_size, far_enough, interval_has, number_of, range_has}
use Rattle.vd_given_choices.specs.Covering.{IsInterval, middle}
use Rattle.vd_given_choices.specs.Texts.{AreCounted, IsCounted}
use Rattle.vd_choices.specs.Texts.{AreTextsCovered, IsWithin}
use Rattle.vd_choices.specs.declared.intervals.Interval.{Interval}
use Rattle.vd_composites.specs.Laws.{PlacesAreIndexes}
use Rattle.vd_composites.specs.Ranges.{high_of, is_within, length_of, low_of, place_of, steps_on, values_from, values_in}
use Rattle.vd_composites.specs.declared.ranges.Bounds.{Bounds}
use Rattle.vd_value_rules.proofs.Covering.{both_true, one_true}
use Rattle.vd_value_rules.proofs.Texts.{texts}
use Rattle.vd_value_rules.specs.Choices.{are_texts_covered, same_text}
use Rattle.vd_value_rules.specs.Laws.{is_text_over}

-- ---- numbers that are equal

same_int : (i j : ℤ) → int_eq i j ≡ true → i ≡ j
same_int (pos m) (pos n) e = grind (arith, ints)
same_int (pos m) (negsuc n) e = absurd cc
same_int (negsuc m) (pos n) e = absurd cc
same_int (negsuc m) (negsuc n) e = grind (arith, ints)

int_is_same : (i : ℤ) → int_eq i i ≡ true
int_is_same (pos n) = grind (arith, ints)
int_is_same (negsuc n) = grind (arith, ints)

later_one : (a c : Bool) → c ≡ true → (a || c) ≡ true
later_one true c h = refl
later_one false c h = h

first_one : (a c : Bool) → a ≡ true → (a || c) ≡ true
first_one a c h = ap (λ b. b || c) h

both : (a b : Bool) → a ≡ true → b ≡ true → (a && b) ≡ true
both a b is too = ap (λ c. c && b) is ∙ too

-- ---- the values of a range

no_step : (down : Bool) (l : ℤ) → steps_on down l 0 ≡ l
no_step true l = omega (arith, ints)
no_step false l = omega (arith, ints)

one_step : (down : Bool) (l : ℤ) (k : ℕ) → steps_on down (steps_on down l 1) k ≡ steps_on down l (suc k)
one_step true l k = omega (arith, ints)
one_step false l k = omega (arith, ints)

value_there : (n : ℕ) (l : ℤ) (down : Bool) (k : ℕ) → k < n → list_any (int_eq (steps_on down l k)) (values_from n l down) ≡ true
value_there zero l down k within = absurd (omega (arith, within))
value_there (suc n) l down zero within =
    first_one (int_eq (steps_on down l 0) l) (list_any (int_eq (steps_on down l 0)) (values_from n (steps_on down l 1) down))
    (subst (λ i. int_eq i l ≡ true) (sym (no_step down l)) (int_is_same l))
value_there (suc n) l down (suc k) within =
    later_one (int_eq (steps_on down l (suc k)) l) (list_any (int_eq (steps_on down l (suc k))) (values_from n (steps_on down l 1) down))
    (subst (λ i. list_any (int_eq i) (values_from n (steps_on down l 1) down) ≡ true) (one_step down l k)
    (value_there n (steps_on down l 1) down k (omega (arith, within))))

record HasPlace (n : ℕ) (l : ℤ) (down : Bool) (i : ℤ) : Type 0 where
  place : ℕ
  below : place < n
  is : steps_on down l place ≡ i

place_further : (n : ℕ) (l : ℤ) (down : Bool) (i : ℤ) → HasPlace n (steps_on down l 1) down i → HasPlace (suc n) l down i
place_further n l down i h = record { place = suc h.place; below = omega (arith, h.below); is = sym (one_step down l h.place) ∙ h.is }

value_place : (n : ℕ) (l : ℤ) (down : Bool) (i : ℤ) → list_any (int_eq i) (values_from n l down) ≡ true → HasPlace n l down i
value_place zero l down i there = absurd cc
value_place (suc n) l down i there =
    ⊎_elim (λ here. record { place = 0; below = omega arith; is = no_step down l ∙ sym (same_int i l here) })
    (λ further. place_further n l down i (value_place n (steps_on down l 1) down i further))
    (one_true (int_eq i l) (list_any (int_eq i) (values_from n (steps_on down l 1) down)) there)

module _ (places : PlacesAreIndexes) (b : Bounds) where
  is_value : (i : ℤ) → is_within b i ≡ true → list_any (int_eq i) (values_in b) ≡ true
  is_value i within =
      let at = places.place b i within in
      subst (λ j. list_any (int_eq j) (values_in b) ≡ true) at.1 (value_there (length_of b) b.left b.down (place_of b i) at.0)

  value_is : (i : ℤ) → list_any (int_eq i) (values_in b) ≡ true → is_within b i ≡ true
  value_is i there =
      let at = value_place (length_of b) b.left b.down i there in
      subst (λ j. is_within b j ≡ true) at.is (places.index b at.place at.below).0

  module _ (w : Interval) (is : IsInterval w b) where
    record HasText (ns : List ℕ) : Type 0 where
      text : List ℤ
      counted : IsCounted ns text
      over : is_text_over (values_in b) text ≡ true
      long : length text ≡ length ns

    text_more : (n : ℕ) (ns : List ℕ) (i : ℤ) → pos n ≡ i +ℤ pos middle → is_within b i ≡ true → HasText ns → HasText (n ∷ ns)
    text_more n ns i counted within h = record {
      text = i ∷ h.text;
      counted = (counted, h.counted);
      over = both (list_any (int_eq i) (values_in b)) (is_text_over (values_in b) h.text) (is_value i within) h.over;
      long = ap suc h.long;
    }

    text_of : (ns : List ℕ) → IsWithin w ns → HasText ns
    text_of [] within = record { text = []; counted = tt; over = refl; long = refl }
    text_of (n ∷ ns) within =
        let i = number_of middle n in
        text_more n ns i.0 i.1 (range_has i.0 n i.1 w b is within.0) (text_of ns within.1)

    record HasNumbers (t : List ℤ) : Type 0 where
      numbers : List ℕ
      counted : IsCounted numbers t
      within : IsWithin w numbers
      long : length numbers ≡ length t

    numbers_more : (i : ℤ) (t : List ℤ) → is_within b i ≡ true → HasNumbers t → HasNumbers (i ∷ t)
    numbers_more i t within h =
        let low = (both_true (int_le (low_of b) i) (int_le i (high_of b)) (sym (by_size b i) ∙ within)).0 in
        let n = far_enough middle w.low (low_of b) i is.low low in
        record {
          numbers = n.0 ∷ h.numbers;
          counted = (n.1, h.counted);
          within = (interval_has i n.0 n.1 w b is within, h.within);
          long = ap suc h.long;
        }

    numbers_of : (t : List ℤ) → is_text_over (values_in b) t ≡ true → HasNumbers t
    numbers_of [] over = record { numbers = []; counted = tt; within = tt; long = refl }
    numbers_of (i ∷ t) over =
        let two = both_true (list_any (int_eq i) (values_in b)) (is_text_over (values_in b) t) over in
        numbers_more i t (value_is i two.0) (numbers_of t two.1)

-- ---- texts that are the same

same_counted : (m n : ℕ) (i j : ℤ) → pos m ≡ i +ℤ pos middle → pos n ≡ j +ℤ pos middle → i ≡ j → m ≡ n
same_counted m n i j a c same = omega (arith, ints)

counted_back : (m n : ℕ) (i j : ℤ) → pos m ≡ i +ℤ pos middle → pos n ≡ j +ℤ pos middle → m ≡ n → i ≡ j
counted_back m n i j a c same = omega (arith, ints)

same_numbers : (ms ns : List ℕ) (t u : List ℤ) → IsCounted ms t → IsCounted ns u → same_text t u ≡ true → ms ≡ ns
same_numbers [] [] [] [] a c same = refl
same_numbers [] (n ∷ ns) [] [] a c same = absurd c
same_numbers (m ∷ ms) ns [] u a c same = absurd a
same_numbers [] ns (i ∷ t) u a c same = absurd a
same_numbers [] ns [] (j ∷ u) a c same = absurd cc
same_numbers (m ∷ ms) ns (i ∷ t) [] a c same = absurd cc
same_numbers (m ∷ ms) [] (i ∷ t) (j ∷ u) a c same = absurd c
same_numbers (m ∷ ms) (n ∷ ns) (i ∷ t) (j ∷ u) a c same =
    let two = both_true (int_eq i j) (same_text t u) same in
    ap₂ (λ k l. k ∷ l) (same_counted m n i j a.0 c.0 (same_int i j two.0)) (same_numbers ms ns t u a.1 c.1 two.1)

same_back : (ms ns : List ℕ) (t u : List ℤ) → IsCounted ms t → IsCounted ns u → ms ≡ ns → same_text t u ≡ true
same_back [] [] [] [] a c same = refl
same_back [] [] [] (j ∷ u) a c same = absurd c
same_back [] [] (i ∷ t) u a c same = absurd a
same_back [] (n ∷ ns) t u a c same = absurd cc
same_back (m ∷ ms) [] t u a c same = absurd cc
same_back (m ∷ ms) (n ∷ ns) [] u a c same = absurd a
same_back (m ∷ ms) (n ∷ ns) (i ∷ t) [] a c same = absurd c
same_back (m ∷ ms) (n ∷ ns) (i ∷ t) (j ∷ u) a c same =
    let heads : m ≡ n = cc in
    let tails : ms ≡ ns = cc in
    let one : i ≡ j = counted_back m n i j a.0 c.0 heads in
    both (int_eq i j) (same_text t u) (subst (λ k. int_eq i k ≡ true) one (int_is_same i)) (same_back ms ns t u a.1 c.1 tails)

one_later : (x y : List ℕ) (xs : List (List ℕ)) → Contains xs y → Contains (x ∷ xs) y
one_later x y xs h = (suc h.0, omega (arith, h.1), h.2)

contained : (ns : List ℕ) (t : List ℤ) (xs : List (List ℕ)) (ts : List (List ℤ)) → IsCounted ns t → AreCounted xs ts → list_any (same_text t) ts ≡ true → Contains xs ns
contained ns t [] [] is are there = absurd cc
contained ns t [] (u ∷ ts) is are there = absurd are
contained ns t (x ∷ xs) [] is are there = absurd are
contained ns t (x ∷ xs) (u ∷ ts) is are there =
    ⊎_elim (λ here. (0, omega arith, sym (same_numbers ns x t u is are.0 here)))
    (λ further. one_later x ns xs (contained ns t xs ts is are.1 further)) (one_true (same_text t u) (list_any (same_text t) ts) there)

found_at : (k : ℕ) (ns : List ℕ) (t : List ℤ) (xs : List (List ℕ)) (ts : List (List ℤ)) → IsCounted ns t → AreCounted xs ts → k < length xs → get_or xs k ns ≡ ns
    → list_any (same_text t) ts ≡ true
found_at k ns t [] ts is are within at = absurd (omega (arith, within))
found_at k ns t (x ∷ xs) [] is are within at = absurd are
found_at zero ns t (x ∷ xs) (u ∷ ts) is are within at = first_one (same_text t u) (list_any (same_text t) ts) (same_back ns x t u is are.0 (sym at))
found_at (suc k) ns t (x ∷ xs) (u ∷ ts) is are within at =
    later_one (same_text t u) (list_any (same_text t) ts) (found_at k ns t xs ts is are.1 (omega (arith, within)) at)

-- ---- covering

module _ (places : PlacesAreIndexes) (w : Interval) (b : Bounds) (is : IsInterval w b) (n : ℕ) (xs : List (List ℕ)) (ts : List (List ℤ)) (are : AreCounted xs ts) where
  covered_numbers : are_texts_covered n (values_in b) ts ≡ true → AreTextsCovered w n xs
  covered_numbers covered = λ ns long within.
      let h = text_of places b w is ns within in
      contained ns h.text xs ts h.counted are (texts.given n (values_in b) ts h.text covered (h.long ∙ long) h.over)

  covered_values : AreTextsCovered w n xs → are_texts_covered n (values_in b) ts ≡ true
  covered_values covered = texts.covered n (values_in b) ts (λ t long over.
      let h = numbers_of places b w is t over in
      let c = covered h.numbers (h.long ∙ long) h.within in
      found_at c.0 h.numbers t xs ts h.counted are c.1 c.2)

pub texts_answer : {E : Type 0} (places : PlacesAreIndexes) (w : Interval) (b : Bounds) (n : ℕ) (xs ys : List (List ℕ)) (ts : List (List ℤ)) (r : Result Bool E)
    → IsInterval w b → AreCounted xs ts → ys ≡ xs → IfOk r (λ answer. IsTrue answer ↔ AreTextsCovered w n ys)
    → IfOk r (λ answer. answer ≡ are_texts_covered n (values_in b) ts)
texts_answer places w b n xs ys ts (Ok answer) is are same covers =
    let ok = subst (λ zs. AreCounted zs ts) (sym same) are in
    answer_by answer (are_texts_covered n (values_in b) ts) (λ yes. covered_values places w b is n ys ts ok (covers.0 yes))
    (λ yes. covers.1 (covered_numbers places w b is n ys ts ok yes))
  where
    answer_by : (a c : Bool) → (a ≡ true → c ≡ true) → (c ≡ true → a ≡ true) → a ≡ c
    answer_by true c there back = sym (there refl)
    answer_by false true there back = back refl
    answer_by false false there back = refl
texts_answer places w b n xs ys ts (Err e) is are same covers = tt
