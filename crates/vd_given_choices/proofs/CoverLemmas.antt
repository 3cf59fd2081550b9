-- Intervals that count from the least value on cover what the ranges of values do.
use Rattle.std.proofs.Common.{◌≡◌, ◌∷◌, ◌+◌, ◌-◌, ◌≤◌, ℕ, zero, suc, ℤ, pos, negsuc, ◌+ℤ◌, ◌-ℤ◌, Bool, true, false, List, [], ⊎_elim, refl, ap, ◌∙◌, sym, subst, arith, take, length, get_or, ◌++◌, ◌<◌}
use Rattle.std.proofs.lemmas.Int.{ints}
use Rattle.std.specs.Prelude.{int_le, ◌&&◌, ◌||◌, ◌↔◌, IsTrue, IfOk, Result, Ok, Err}
use Rattle.vd_choices.specs.Intervals.{Has, IsCovered, IsGiven, choice_at}
use Rattle.vd_choices.specs.declared.intervals.Interval.{Interval}
use Rattle.vd_composites.specs.Ranges.{high_of, is_within, low_of}
use Rattle.vd_composites.specs.declared.ranges.Bounds.{Bounds}
use Rattle.vd_given_choices.specs.Covering.{AreIntervals, IsInterval, middle}
use Rattle.vd_value_rules.proofs.Covering.{both_true, covering, one_true}
use Rattle.vd_value_rules.specs.Choices.{are_covered, is_given}

-- ---- numbers that count from further below

counted_order : (k m n : ℕ) (i j : ℤ) → pos m ≡ i +ℤ pos k → pos n ≡ j +ℤ pos k → int_le i j ≡ true → m ≤ n
counted_order k m n (pos i) (pos j) a b h = grind (arith, ints)
counted_order k m n (pos i) (negsuc j) a b h = grind (arith, ints)
counted_order k m n (negsuc i) (pos j) a b h = grind (arith, ints)
counted_order k m n (negsuc i) (negsuc j) a b h = grind (arith, ints)

order_counted : (k m n : ℕ) (i j : ℤ) → pos m ≡ i +ℤ pos k → pos n ≡ j +ℤ pos k → m ≤ n → int_le i j ≡ true
order_counted k m n (pos i) (pos j) a b h = grind (arith, ints)
order_counted k m n (pos i) (negsuc j) a b h = grind (arith, ints)
order_counted k m n (negsuc i) (pos j) a b h = grind (arith, ints)
order_counted k m n (negsuc i) (negsuc j) a b h = grind (arith, ints)

-- what isn't less than a number that is counted is counted
pub far_enough : (k m : ℕ) (i j : ℤ) → pos m ≡ i +ℤ pos k → int_le i j ≡ true → (n : ℕ) × (pos n ≡ j +ℤ pos k)
far_enough k m i (pos j) a h = (j + k, refl)
far_enough k m (pos i) (negsuc j) a h = absurd cc
far_enough k m (negsuc i) (negsuc j) a h = below k m i j a (grind (arith, ints))
  where
    below : (k m i j : ℕ) → pos m ≡ negsuc i +ℤ pos k → j ≤ i → (n : ℕ) × (pos n ≡ negsuc j +ℤ pos k)
    below k m i j a h = (k - suc j, omega (arith, ints, a, h))

pub number_of : (k v : ℕ) → (i : ℤ) × (pos v ≡ i +ℤ pos k)
number_of k v = (pos v -ℤ pos k, omega (arith, ints))

-- ---- ranges

bounds_by_size : (l r i : ℤ) (down : Bool) → is_within (record { left = l; right = r; down = down }) i
    ≡ (int_le (low_of (record { left = l; right = r; down = down })) i && int_le i (high_of (record { left = l; right = r; down = down })))
bounds_by_size l r i true = refl
bounds_by_size l r i false = refl

pub by_size : (b : Bounds) (i : ℤ) → is_within b i ≡ (int_le (low_of b) i && int_le i (high_of b))
by_size b i = bounds_by_size b.left b.right i b.down

both : (a b : Bool) → a ≡ true → b ≡ true → (a && b) ≡ true
both a b is too = ap (λ c. c && b) is ∙ too

module _ (i : ℤ) (v : ℕ) (counted : pos v ≡ i +ℤ pos middle) where
  pub interval_has : (x : Interval) (b : Bounds) → IsInterval x b → is_within b i ≡ true → Has x v
  interval_has x b is within =
      let two = both_true (int_le (low_of b) i) (int_le i (high_of b)) (sym (by_size b i) ∙ within) in
      (counted_order middle x.low v (low_of b) i is.low counted two.0, counted_order middle v x.high i (high_of b) counted is.high two.1)

  pub range_has : (x : Interval) (b : Bounds) → IsInterval x b → Has x v → is_within b i ≡ true
  range_has x b is has =
      by_size b i ∙ both (int_le (low_of b) i) (int_le i (high_of b)) (order_counted middle x.low v (low_of b) i is.low counted has.0)
      (order_counted middle v x.high i (high_of b) counted is.high has.1)

  later : (x : Interval) (xs : List Interval) → IsGiven xs v → IsGiven (x ∷ xs) v
  later x xs given = (suc given.0, given.1)

  intervals_give : (xs : List Interval) (bs : List Bounds) → AreIntervals xs bs → is_given bs i ≡ true → IsGiven xs v
  intervals_give [] [] are given = absurd cc
  intervals_give [] (b ∷ bs) are given = absurd are
  intervals_give (x ∷ xs) [] are given = absurd are
  intervals_give (x ∷ xs) (b ∷ bs) are given =
      ⊎_elim (λ here. (0, interval_has x b are.0 here)) (λ there. later x xs (intervals_give xs bs are.1 there)) (one_true (is_within b i) (is_given bs i) given)

  in_front : (a b : Bool) → a ≡ true → (a || b) ≡ true
  in_front a b is = ap (λ c. c || b) is

  behind : (a b : Bool) → b ≡ true → (a || b) ≡ true
  behind true b is = refl
  behind false b is = is

  ranges_give_at : (k : ℕ) (xs : List Interval) (bs : List Bounds) → AreIntervals xs bs → Has (choice_at xs k) v → is_given bs i ≡ true
  ranges_give_at k [] [] are has = absurd (omega (arith, has.0, has.1))
  ranges_give_at k [] (b ∷ bs) are has = absurd are
  ranges_give_at k (x ∷ xs) [] are has = absurd are
  ranges_give_at zero (x ∷ xs) (b ∷ bs) are has = in_front (is_within b i) (is_given bs i) (range_has x b are.0 has)
  ranges_give_at (suc k) (x ∷ xs) (b ∷ bs) are has = behind (is_within b i) (is_given bs i) (ranges_give_at k xs bs are.1 has)

-- ---- covering

module _ (w : Interval) (within : Bounds) (is : IsInterval w within) (xs : List Interval) (bs : List Bounds) (are : AreIntervals xs bs) where
  covered_intervals : are_covered within bs ≡ true → IsCovered w xs
  covered_intervals covered = λ v has.
      let n = number_of middle v in
      intervals_give n.0 v n.1 xs bs are (covering.given within bs n.0 covered (range_has n.0 v n.1 w within is has))

  covered_ranges : IsCovered w xs → are_covered within bs ≡ true
  covered_ranges covered = covering.covered within bs (λ i inside.
      let low = (both_true (int_le (low_of within) i) (int_le i (high_of within)) (sym (by_size within i) ∙ inside)).0 in
      let n = far_enough middle w.low (low_of within) i is.low low in
      let given = covered n.0 (interval_has i n.0 n.1 w within is inside) in
      ranges_give_at i n.0 n.1 given.0 xs bs are given.1)

  pub by_answer : (a c : Bool) → (a ≡ true → c ≡ true) → (c ≡ true → a ≡ true) → a ≡ c
  by_answer true c there back = sym (there refl)
  by_answer false true there back = back refl
  by_answer false false there back = refl

  pub covered_same : (answer : Bool) → IsTrue answer ↔ IsCovered w xs → answer ≡ are_covered within bs
  covered_same answer covers = by_answer answer (are_covered within bs) (λ is. covered_ranges (covers.0 is)) (λ c. covers.1 (covered_intervals c))

-- ---- intervals of some ranges

one_behind : (j : ℕ) (xs : List Interval) (bs : List Bounds) (x : Interval) (d : Bounds) → AreIntervals xs (take j bs) → j < length bs
    → IsInterval x (get_or bs j d) → AreIntervals (xs ++ x ∷ []) (take (suc j) bs)
one_behind j xs [] x d are within is = absurd (omega (arith, within))
one_behind zero [] (c ∷ bs) x d are within is = (is, tt)
one_behind zero (y ∷ xs) (c ∷ bs) x d are within is = absurd are
one_behind (suc j) [] (c ∷ bs) x d are within is = absurd are
one_behind (suc j) (y ∷ xs) (c ∷ bs) x d are within is = (are.0, one_behind j xs bs x d are.1 (omega (arith, within)) is)

pub one_interval : (j : ℕ) (xs ys : List Interval) (bs : List Bounds) (x : Interval) (d : Bounds) → AreIntervals xs (take j bs) → j < length bs
    → IsInterval x (get_or bs j d) → ys ≡ xs ++ x ∷ [] → AreIntervals ys (take (j + 1) bs)
one_interval j xs ys bs x d are within is pushed =
    let next : suc j ≡ j + 1 = omega arith in
    subst (λ zs. AreIntervals zs (take (j + 1) bs)) (sym pushed)
    (subst (λ k. AreIntervals (xs ++ x ∷ []) (take k bs)) next (one_behind j xs bs x d are within is))

pub covered_answer : {E : Type 0} (w : Interval) (within : Bounds) (xs ys : List Interval) (bs : List Bounds) (r : Result Bool E)
    → IsInterval w within → AreIntervals xs bs → ys ≡ xs → IfOk r (λ answer. IsTrue answer ↔ IsCovered w ys) → IfOk r (λ answer. answer ≡ are_covered within bs)
covered_answer w within xs ys bs (Ok answer) is are same covers =
    covered_same w within is ys bs (subst (λ zs. AreIntervals zs bs) (sym same) are) answer covers
covered_answer w within xs ys bs (Err e) is are same covers = tt
