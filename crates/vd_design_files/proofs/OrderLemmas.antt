-- Things in a list, each of which has something or ends: one more, the first that ends, and that there is one answer.
use Rattle.std.proofs.Common.{◌≡◌, ◌<◌, ◌+◌, ◌⊎◌, ℕ, suc, zero, List, [], ◌∷◌, ◌++◌, length, take, get_or, refl, sym, subst, arith, inl, inr}
use Rattle.std.proofs.lemmas.List.{take_more}
use Rattle.std.specs.List.{AllByRecursion}
use Rattle.vd_design_files.specs.InOrder.{HaveEach, IsFirstEnd}

module _ {A : Type 0} (P : A → Type 0) where
  -- one more
  pub all_push : (xs : List A) (x : A) → AllByRecursion P xs → P x → AllByRecursion P (xs ++ x ∷ [])
  all_push [] x all here = (here, tt)
  all_push (y ∷ xs) x all here = (all.0, all_push xs x all.1 here)

module _ {A B : Type 0} (Has : A → B → Type 0) where
  have_push : (xs : List A) (ys : List B) (a : A) (b : B) → HaveEach Has xs ys → Has a b → HaveEach Has (xs ++ a ∷ []) (ys ++ b ∷ [])
  have_push [] [] a b h x = (x, tt)
  have_push [] (b' ∷ ys) a b h x = absurd h
  have_push (a' ∷ xs) [] a b h x = absurd h
  have_push (a' ∷ xs) (b' ∷ ys) a b h x = (h.0, have_push xs ys a b h.1 x)

  -- one more
  pub have_more : (xs : List A) (i : ℕ) (d : A) (ys : List B) (b : B) → i < length xs → HaveEach Has (take i xs) ys → Has (get_or xs i d) b → HaveEach Has (take (i + 1) xs) (ys ++ b ∷ [])
  have_more xs i d ys b inside h x = subst (λ front. HaveEach Has front (ys ++ b ∷ [])) (sym (take_more xs i d inside)) (have_push (take i xs) ys (get_or xs i d) b h x)

  -- no two lists of things are had
  pub have_one : ((a : A) (b c : B) → Has a b → Has a c → b ≡ c) → (xs : List A) (ys zs : List B) → HaveEach Has xs ys → HaveEach Has xs zs → ys ≡ zs
  have_one one [] [] [] h k = refl
  have_one one [] [] (c ∷ zs) h k = absurd k
  have_one one [] (b ∷ ys) zs h k = absurd h
  have_one one (a ∷ xs) [] zs h k = absurd h
  have_one one (a ∷ xs) (b ∷ ys) [] h k = absurd k
  have_one one (a ∷ xs) (b ∷ ys) (c ∷ zs) h k = λ i. one a b c h.0 k.0 i ∷ have_one one xs ys zs h.1 k.1 i

  -- what holds of all that is had
  pub all_had : (P : B → Type 0) → ((a : A) (b : B) → Has a b → P b) → (xs : List A) (ys : List B) → HaveEach Has xs ys → AllByRecursion P ys
  all_had P p [] [] h = tt
  all_had P p [] (b ∷ ys) h = absurd h
  all_had P p (a ∷ xs) [] h = absurd h
  all_had P p (a ∷ xs) (b ∷ ys) h = (p a b h.0, all_had P p xs ys h.1)

  module _ {C : Type 0} (Ends : A → C → Type 0) where
    -- the first that ends, behind those that have something
    pub first_at : (xs : List A) (i : ℕ) (d : A) (ys : List B) (c : C) → i < length xs → HaveEach Has (take i xs) ys → Ends (get_or xs i d) c → IsFirstEnd Has Ends xs c
    first_at [] i d ys c inside h e = absurd (omega (arith, inside))
    first_at (a ∷ xs) zero d ys c inside h e = inl e
    first_at (a ∷ xs) (suc i) d [] c inside h e = absurd h
    first_at (a ∷ xs) (suc i) d (b ∷ ys) c inside h e = inr (b, h.0, first_at xs i d ys c (omega (arith, inside)) h.1 e)

    module _ (apart : (a : A) (b : B) (c : C) → Has a b → Ends a c → ⊥) where
      -- where all have something, none ends
      pub all_or_end : (xs : List A) (ys : List B) (c : C) → HaveEach Has xs ys → IsFirstEnd Has Ends xs c → ⊥
      all_or_end [] ys c h e = e
      all_or_end (a ∷ xs) [] c h e = h
      all_or_end (a ∷ xs) (b ∷ ys) c h (inl e) = apart a b c h.0 e
      all_or_end (a ∷ xs) (b ∷ ys) c h (inr e) = all_or_end xs ys c h.1 e.2

      pub end_one : ((a : A) (c d : C) → Ends a c → Ends a d → c ≡ d) → (xs : List A) (c d : C) → IsFirstEnd Has Ends xs c → IsFirstEnd Has Ends xs d → c ≡ d
      end_one one [] c d e f = absurd e
      end_one one (a ∷ xs) c d (inl e) (inl f) = one a c d e f
      end_one one (a ∷ xs) c d (inl e) (inr f) = absurd (apart a f.0 c f.1 e)
      end_one one (a ∷ xs) c d (inr e) (inl f) = absurd (apart a e.0 d e.1 f)
      end_one one (a ∷ xs) c d (inr e) (inr f) = end_one one xs c d e.2 f.2

    -- all have something, or there is a first that ends
    pub all_or_first : (P : A → Type 0) → ((x : A) → P x → ((y : B) × Has x y) ⊎ ((z : C) × Ends x z)) → (xs : List A) → AllByRecursion P xs → ((ys : List B) × HaveEach Has xs ys) ⊎ ((z : C) × IsFirstEnd Has Ends xs z)
    all_or_first P each [] all = inl ([], tt)
    all_or_first P each (x ∷ xs) all = by (each x all.0) (all_or_first P each xs all.1)
      where
        by : ((y : B) × Has x y) ⊎ ((z : C) × Ends x z) → ((ys : List B) × HaveEach Has xs ys) ⊎ ((z : C) × IsFirstEnd Has Ends xs z)
            → ((ys : List B) × HaveEach Has (x ∷ xs) ys) ⊎ ((z : C) × IsFirstEnd Has Ends (x ∷ xs) z)
        by (inr e) rest = inr (e.0, inl e.1)
        by (inl h) (inl hs) = inl (h.0 ∷ hs.0, (h.1, hs.1))
        by (inl h) (inr es) = inr (es.0, inr (h.0, h.1, es.1))

-- what holds of everything
pub all_any : {A : Type 0} (P : A → Type 0) → ((x : A) → P x) → (xs : List A) → AllByRecursion P xs
all_any P each [] = tt
all_any P each (x ∷ xs) = (each x, all_any P each xs)
