-- Tests over lists, and the elements that they speak of.
use Rattle.std.proofs.Common.{◌≡◌, ℕ, zero, suc, ◌+◌, Bool, true, false, cond, List, [], ◌∷◌, inl, inr, Some, slice_get, count_by, find, refl, sym, ap, subst, ◌∙◌, arith}
use Rattle.std.specs.List.{list_all, list_any}
use Rattle.std.proofs.lemmas.List.Sums.{sum_by-cons}
use Rattle.std.proofs.lemmas.Bool.{and_parts, or_cases, cases_Bool, false≢true}

uncounted : (b : Bool) (m n : ℕ) → b ≡ false → cond b 1 0 + m ≡ suc n → m ≡ suc n
uncounted true m n h e = absurd cc
uncounted false m n h e = omega (arith, e)

module _ {X : Type 0} (test : X → Bool) where
  -- each element of a list that passes passes
  pub all_at : (xs : List X) (k : ℕ) (x : X) → list_all test xs ≡ true → slice_get xs k ≡ Some x → test x ≡ true
  all_at [] k x passes at = absurd cc
  all_at (y ∷ xs) zero x passes at = let same : y ≡ x = cc in subst (λ z. test z ≡ true) same (and_parts _ _ passes).0
  all_at (y ∷ xs) (suc k) x passes at = all_at xs k x (and_parts _ _ passes).1 at

  -- an element that passes, with its place
  pub record Found (xs : List X) : Type 0 where
    pub place : ℕ
    pub value : X
    pub at : slice_get xs place ≡ Some value
    pub passes : test value ≡ true

  further : (y : X) (xs : List X) → Found xs → Found (y ∷ xs)
  further y xs found = record { place = suc found.place; value = found.value; at = found.at; passes = found.passes }

  pub any_found : (xs : List X) → list_any test xs ≡ true → Found xs
  any_found [] passes = absurd (false≢true passes)
  any_found (y ∷ xs) passes =
      elim (or_cases (test y) (list_any test xs) passes) [
        | inl h ↦ record { place = 0; value = y; at = refl; passes = h }
        | inr h ↦ further y xs (any_found xs h)
      ]

  -- the first one
  pub record IsFind (xs : List X) (x : X) : Type 0 where
    pub place : ℕ
    pub at : slice_get xs place ≡ Some x
    pub passes : test x ≡ true

  find_here : (y x : X) (xs : List X) → test y ≡ true → cond (test y) (Some y) (find test xs) ≡ Some x → IsFind (y ∷ xs) x
  find_here y x xs h e =
      let same : Some y ≡ Some x = ap (λ b. cond b (Some y) (find test xs)) (sym h) ∙ e in
      let is : y ≡ x = cc in
      record { place = 0; at = same; passes = subst (λ z. test z ≡ true) is h }

  pub find_found : (xs : List X) (x : X) → find test xs ≡ Some x → IsFind xs x
  find_found [] x e = absurd cc
  find_found (y ∷ xs) x e =
      elim (cases_Bool (test y)) [
        | inl h ↦ find_here y x xs h e
        | inr h ↦ let r = find_found xs x (ap (λ b. cond b (Some y) (find test xs)) (sym h) ∙ e) in record { place = suc r.place; at = r.at; passes = r.passes }
      ]

  -- where some pass, the first one is found
  pub some_find : (xs : List X) (n : ℕ) → count_by test xs ≡ suc n → (x : X) × (find test xs ≡ Some x)
  some_find [] n e = absurd (omega (arith, e))
  some_find (y ∷ xs) n e =
      elim (cases_Bool (test y)) [
        | inl h ↦ (y, ap (λ b. cond b (Some y) (find test xs)) h)
        | inr h ↦ let r = some_find xs n (uncounted (test y) (count_by test xs) n h (sym (sum_by-cons (λ x. cond (test x) 1 0) y xs) ∙ e)) in (r.0, ap (λ b. cond b (Some y) (find test xs)) h ∙ r.1)
      ]
