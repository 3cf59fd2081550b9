-- Texts within an interval, tried in their order.
use Rattle.std.proofs.Common.{◌≡◌, ℕ, suc, ◌+◌, ◌-◌, ◌*◌, ◌<◌, ◌≤◌, ◌⊎◌, zero, replicate, List, [], ◌∷◌, ◌++◌, length, Option, Some, None, Bool, true, false, nat_lt, if◌then◌else◌, inl, inr, refl, sym, ap, ap₂, subst, ◌∙◌, arith, ⊎_elim, mul-le-mul_left, take, drop, set, get_or, take-append-drop, lt-ltb}
use Rattle.std.specs.Option.{option_map}
use Rattle.std.proofs.lemmas.Bool.{cases_lt}
use Rattle.std.proofs.lemmas.List.{length-replicate, drop-set, take-set}
use Rattle.std.proofs.Math.Seq.{drop-cons}
use Rattle.std.proofs.lemmas.Bool.Decides.{nat_tests}
use Rattle.vd_choices.specs.declared.intervals.Interval.{Interval}
use Rattle.vd_choices.specs.Texts.{IsWithin}
use Rattle.vd_choices.specs.TextOrder.{Before, next_text, texts_left}

is_less : (x y : ℕ) → nat_lt x y ≡ true → x < y
is_less x y e = grind (arith, nat_tests)

is_more : (x y : ℕ) → nat_lt x y ≡ false → y ≤ x
is_more x y e = grind (arith, nat_tests)

-- two sums of digits, of which the rests differ by one at least
carry : (a b w m n : ℕ) → a < w → m < n → a + w * m < b + w * n
carry a b w m n less fewer =
    let more : w * suc m ≤ w * n = mul-le-mul_left {m = suc m} {n = n} w (omega arith) in
    let one : w * suc m ≡ w * m + w = omega arith in
    omega arith

module _ (within : Interval) where
  -- what a caller needs to know of the text that is tried after another
  pub record Follows (text after : List ℕ) : Type 0 where
    pub inside : IsWithin within text → IsWithin within after
    pub long : length after ≡ length text
    pub between : (t : List ℕ) → IsWithin within t → IsWithin within text → Before t after → Before t text ⊎ (t ≡ text)
    pub fewer : IsWithin within text → texts_left within after < texts_left within text

  -- no text is tried after this one
  pub record IsLast (text : List ℕ) : Type 0 where
    pub above : (t : List ℕ) → length t ≡ length text → IsWithin within t → IsWithin within text → Before t text ⊎ (t ≡ text)

  between_step : (x : ℕ) (xs t : List ℕ) → Before t ((x + 1) ∷ xs) → Before t (x ∷ xs) ⊎ (t ≡ x ∷ xs)
  between_step x xs [] b = absurd b
  between_step x xs (y ∷ ys) (inl b) = inl (inl b)
  between_step x xs (y ∷ ys) (inr (e, less)) =
      ⊎_elim (λ lt. inl (inr (e, lt))) (λ ge. let same : y ≡ x = omega arith in inr (ap₂ (λ a rest. a ∷ rest) same e)) (cases_lt y x)

  stepped : (x : ℕ) (xs : List ℕ) → x < within.high → Follows (x ∷ xs) ((x + 1) ∷ xs)
  stepped x xs less = record {
    inside = λ w. ((omega (arith, w.0.0), omega arith), w.1);
    long = refl;
    between = λ t wt w b. between_step x xs t b;
    fewer = λ w. omega arith;
  }

  -- a text whose rest is tried no later: the first element is at most its greatest value
  not_later : (x : ℕ) (xs : List ℕ) (y : ℕ) (ys : List ℕ) → within.high ≤ x → y ≤ within.high → Before ys xs ⊎ (ys ≡ xs) → Before (y ∷ ys) (x ∷ xs) ⊎ (y ∷ ys ≡ x ∷ xs)
  not_later x xs y ys high top (inl b) = inl (inl b)
  not_later x xs y ys high top (inr e) =
      ⊎_elim (λ lt. inl (inr (e, lt))) (λ ge. let same : y ≡ x = omega arith in inr (ap₂ (λ a rest. a ∷ rest) same e)) (cases_lt y x)

  between_carry : (x : ℕ) (xs rest t : List ℕ) → within.high ≤ x → Follows xs rest → IsWithin within t → IsWithin within (x ∷ xs) → Before t (within.low ∷ rest) → Before t (x ∷ xs) ⊎ (t ≡ x ∷ xs)
  between_carry x xs rest [] high f wt w b = absurd b
  between_carry x xs rest (y ∷ ys) high f wt w (inl b) = not_later x xs y ys high wt.0.1 (f.between ys wt.1 w.1 b)
  between_carry x xs rest (y ∷ ys) high f wt w (inr (e, less)) = absurd (omega (arith, wt.0.0))

  carried : (x : ℕ) (xs rest : List ℕ) → within.high ≤ x → Follows xs rest → Follows (x ∷ xs) (within.low ∷ rest)
  carried x xs rest high f = record {
    inside = λ w. ((omega arith, omega (arith, w.0.0, w.0.1)), f.inside w.1);
    long = ap suc f.long;
    between = λ t wt w b. between_carry x xs rest t high f wt w b;
    fewer = λ w. carry (within.high - within.low) (within.high - x) (within.high - within.low + 1) (texts_left within rest) (texts_left within xs) (omega arith) (f.fewer w.1);
  }

  follows_by : (x : ℕ) (xs after : List ℕ) (b : Bool) (o : Option (List ℕ)) → nat_lt x within.high ≡ b → ((rest : List ℕ) → o ≡ Some rest → Follows xs rest)
      → (if b then Some ((x + 1) ∷ xs) else option_map (λ rest. within.low ∷ rest) o) ≡ Some after → Follows (x ∷ xs) after
  follows_by x xs after true o less rests e = let s : (x + 1) ∷ xs ≡ after = cc in subst (Follows (x ∷ xs)) s (stepped x xs (is_less x within.high less))
  follows_by x xs after false None more rests e = cc
  follows_by x xs after false (Some rest) more rests e =
      let s : within.low ∷ rest ≡ after = cc in subst (Follows (x ∷ xs)) s (carried x xs rest (is_more x within.high more) (rests rest refl))

  pub follows : (text after : List ℕ) → next_text within text ≡ Some after → Follows text after
  follows [] after e = cc
  follows (x ∷ xs) after e = follows_by x xs after (nat_lt x within.high) (next_text within xs) refl (follows xs) e

  last_above : (x : ℕ) (xs t : List ℕ) → within.high ≤ x → IsLast xs → length t ≡ suc (length xs) → IsWithin within t → IsWithin within (x ∷ xs) → Before t (x ∷ xs) ⊎ (t ≡ x ∷ xs)
  last_above x xs [] high l long wt w = absurd (omega arith)
  last_above x xs (y ∷ ys) high l long wt w = not_later x xs y ys high wt.0.1 (l.above ys (omega arith) wt.1 w.1)

  last_by : (x : ℕ) (xs : List ℕ) (b : Bool) (o : Option (List ℕ)) → nat_lt x within.high ≡ b → (o ≡ None → IsLast xs)
      → (if b then Some ((x + 1) ∷ xs) else option_map (λ rest. within.low ∷ rest) o) ≡ None → IsLast (x ∷ xs)
  last_by x xs true o less rests e = cc
  last_by x xs false None more rests e = record { above = λ t long wt w. last_above x xs t (is_more x within.high more) (rests refl) long wt w }
  last_by x xs false (Some rest) more rests e = cc

  nil_above : (t : List ℕ) → length t ≡ 0 → Before t [] ⊎ (t ≡ [])
  nil_above [] e = inr refl
  nil_above (y ∷ ys) e = absurd (omega arith)

  pub last : (text : List ℕ) → next_text within text ≡ None → IsLast text
  last [] e = record { above = λ t long wt w. nil_above t long }
  last (x ∷ xs) e = last_by x xs (nat_lt x within.high) (next_text within xs) refl (last xs) e

  -- ---- the first text

  pub least_within : (n : ℕ) → (0 < n → within.low ≤ within.high) → IsWithin within (replicate n within.low)
  least_within zero h = tt
  least_within (suc n) h = ((omega arith, h (omega arith)), least_within n (λ _. h (omega arith)))

  pub none_before : (n : ℕ) (t : List ℕ) → IsWithin within t → ¬ Before t (replicate n within.low)
  none_before zero [] w b = b
  none_before zero (y ∷ ys) w b = b
  none_before (suc n) [] w b = b
  none_before (suc n) (y ∷ ys) w (inl b) = none_before n ys w.1 b
  none_before (suc n) (y ∷ ys) w (inr (e, less)) = omega (arith, w.0.0)

  -- ---- trying them all

  -- each text that is tried before this one is there
  pub record IsTried (has : List ℕ → Bool) (count : ℕ) (text : List ℕ) : Type 0 where
    pub inside : IsWithin within text
    pub long : length text ≡ count
    pub tried : (t : List ℕ) → length t ≡ count → IsWithin within t → Before t text → has t ≡ true

  module _ (has : List ℕ → Bool) (count : ℕ) where
    pub tried_start : (0 < count → within.low ≤ within.high) → (text : List ℕ) → text ≡ replicate count within.low → IsTried has count text
    tried_start h text e = subst (IsTried has count) (sym e) (record {
      inside = least_within count h;
      long = length-replicate count within.low;
      tried = λ t long w b. absurd (none_before count t w b);
    })

    module _ (text : List ℕ) (s : IsTried has count text) (here : has text ≡ true) where
      pub tried_more : (after : List ℕ) → next_text within text ≡ Some after → IsTried has count after
      tried_more after e =
          let f = follows text after e in
          record {
            inside = f.inside s.inside;
            long = f.long ∙ s.long;
            tried = λ t long w b. ⊎_elim (λ before. s.tried t long w before) (λ same. ap has same ∙ here) (f.between t w s.inside b);
          }

      pub tried_all : next_text within text ≡ None → (t : List ℕ) → length t ≡ count → IsWithin within t → has t ≡ true
      tried_all e t long w =
          let l = last text e in
          ⊎_elim (λ before. s.tried t long w before) (λ same. ap has same ∙ here) (l.above t (long ∙ sym s.long) w s.inside)

  -- ---- one step through a text

  -- the first i elements had their greatest value and now have their least
  pub record IsCarried (old new : List ℕ) (i : ℕ) : Type 0 where
    pub long : length new ≡ length old
    pub same : next_text within old ≡ option_map (λ rest. take i new ++ rest) (next_text within (drop i new))

  pub carried_to : (old new : List ℕ) (i : ℕ) → IsCarried old new i → i < length new → get_or new i 0 < within.high → next_text within old ≡ Some (set new i (get_or new i 0 + 1))
  carried_to old new i s inside less =
      let split : drop i new ≡ get_or new i 0 ∷ drop (i + 1) new = (let one : suc i ≡ i + 1 = omega arith in drop-cons new i 0 inside ∙ ap (λ k. get_or new i 0 ∷ drop k new) one) in
      let test : nat_lt (get_or new i 0) within.high ≡ true = lt-ltb _ _ less in
      let joined : take i new ++ ((get_or new i 0 + 1) ∷ drop (i + 1) new) ≡ set new i (get_or new i 0 + 1) =
      ap₂ (λ a b. a ++ b) (sym (take-set new i (get_or new i 0 + 1))) (sym (drop-set new i (get_or new i 0 + 1) inside)) ∙ take-append-drop i (set new i (get_or new i 0 + 1)) in
      s.same ∙ ap (λ t. option_map (λ rest. take i new ++ rest) (next_text within t)) split
      ∙ ap (λ b. option_map (λ rest. take i new ++ rest) (if b then Some ((get_or new i 0 + 1) ∷ drop (i + 1) new) else option_map (λ rest. within.low ∷ rest) (next_text within (drop (i + 1) new)))) test
      ∙ ap Some joined
