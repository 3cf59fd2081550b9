-- Members of lists that are filtered, or gathered from several.
use Rattle.std.proofs.Common.{◌≡◌, ◌⊎◌, inl, inr, zero, suc, Bool, true, false, List, [], ◌∷◌, if◌then◌else◌, refl, sym, ap, subst, ◌∙◌, arith, true≢false}
use Rattle.std.specs.List.{Contains, filter, flat_map, list_all, list_any}
use Rattle.std.proofs.lemmas.List.Elements.{Contains-append_left, Contains-append_right, Contains-append_cases}
use Rattle.std.proofs.lemmas.Bool.{cases_Bool, and_parts, and_from}

module _ {X : Type 0} where
  pub no_member : (y : X) → Contains [] y → ⊥
  no_member y (k, within, is) = omega (arith, within)

  single : (x y : X) → Contains (x ∷ []) y → x ≡ y
  single x y (zero, within, is) = is
  single x y (suc k, within, is) = absurd (omega (arith, within))

  pub cons_cases : (x : X) (xs : List X) (y : X) → Contains (x ∷ xs) y → (x ≡ y) ⊎ Contains xs y
  cons_cases x xs y c = elim (Contains-append_cases (x ∷ []) xs y c) [ inl a ↦ inl (single x y a) | inr b ↦ inr b ]

  pub cons_here : (x : X) (xs : List X) → Contains (x ∷ xs) x
  cons_here x xs = (0, omega arith, refl)

  pub cons_there : (x : X) (xs : List X) (y : X) → Contains xs y → Contains (x ∷ xs) y
  cons_there x xs y c = Contains-append_right (x ∷ []) xs y c

  pub from_filter : (p : X → Bool) (xs : List X) (y : X) → Contains (filter p xs) y → Contains xs y × (p y ≡ true)
  from_filter p [] y c = absurd (no_member y c)
  from_filter p (x ∷ xs) y c = elim (cases_Bool (p x)) [
    | inl t ↦ elim (cons_cases x (filter p xs) y (subst (λ zs. Contains zs y) (ap (λ b. if b then x ∷ filter p xs else filter p xs) t) c)) [
      | inl e ↦ (subst (λ z. Contains (x ∷ xs) z) e (cons_here x xs), ap p (sym e) ∙ t)
      | inr r ↦ let rest = from_filter p xs y r in (cons_there x xs y rest.0, rest.1)
    ]
    | inr f ↦ let rest = from_filter p xs y (subst (λ zs. Contains zs y) (ap (λ b. if b then x ∷ filter p xs else filter p xs) f) c) in
        (cons_there x xs y rest.0, rest.1)
  ]

  pub in_filter : (p : X → Bool) (xs : List X) (y : X) → Contains xs y → p y ≡ true → Contains (filter p xs) y
  in_filter p [] y c t = absurd (no_member y c)
  in_filter p (x ∷ xs) y c t = elim (cases_Bool (p x)) [
    | inl here ↦ subst (λ zs. Contains zs y) (sym (ap (λ b. if b then x ∷ filter p xs else filter p xs) here))
        (elim (cons_cases x xs y c) [
          | inl e ↦ subst (λ z. Contains (x ∷ filter p xs) z) e (cons_here x (filter p xs))
          | inr r ↦ cons_there x (filter p xs) y (in_filter p xs y r t)
        ])
    | inr not_here ↦ subst (λ zs. Contains zs y) (sym (ap (λ b. if b then x ∷ filter p xs else filter p xs) not_here))
        (elim (cons_cases x xs y c) [
          | inl e ↦ absurd (true≢false (sym t ∙ ap p (sym e) ∙ not_here))
          | inr r ↦ in_filter p xs y r t
        ])
  ]

  pub from_all : (p : X → Bool) (xs : List X) → list_all p xs ≡ true → (y : X) → Contains xs y → p y ≡ true
  from_all p [] all y c = absurd (no_member y c)
  from_all p (x ∷ xs) all y c =
      let parts = and_parts (p x) (list_all p xs) all in
      elim (cons_cases x xs y c) [ inl e ↦ ap p (sym e) ∙ parts.0 | inr r ↦ from_all p xs parts.1 y r ]

  pub to_all : (p : X → Bool) (xs : List X) → ((y : X) → Contains xs y → p y ≡ true) → list_all p xs ≡ true
  to_all p [] each = refl
  to_all p (x ∷ xs) each = and_from (p x) (list_all p xs) (each x (cons_here x xs)) (to_all p xs (λ y c. each y (cons_there x xs y c)))

  -- none passes a test
  pub from_none : (p : X → Bool) (xs : List X) → list_any p xs ≡ false → (y : X) → Contains xs y → p y ≡ true → ⊥
  from_none p [] none y c t = no_member y c
  from_none p (x ∷ xs) none y c t = elim (cases_Bool (p x)) [
    | inl here ↦ true≢false (sym (rw here refl) ∙ none)
    | inr not_here ↦ elim (cons_cases x xs y c) [
      | inl e ↦ true≢false (sym t ∙ ap p (sym e) ∙ not_here)
      | inr r ↦ from_none p xs (sym (rw not_here refl) ∙ none) y r t
    ]
  ]

  pub to_none : (p : X → Bool) (xs : List X) → ((y : X) → Contains xs y → p y ≡ true → ⊥) → list_any p xs ≡ false
  to_none p [] each = refl
  to_none p (x ∷ xs) each = elim (cases_Bool (p x)) [
    | inl here ↦ absurd (each x (cons_here x xs) here)
    | inr not_here ↦ rw not_here (to_none p xs (λ y c. each y (cons_there x xs y c)))
  ]

  -- some pass a test
  pub from_any : (p : X → Bool) (xs : List X) → list_any p xs ≡ true → (x : X) × (Contains xs x × (p x ≡ true))
  from_any p [] some = absurd (true≢false (sym some))
  from_any p (x ∷ xs) some = elim (cases_Bool (p x)) [
    | inl here ↦ (x, (cons_here x xs, here))
    | inr not_here ↦ let rest = from_any p xs (sym (rw not_here refl) ∙ some) in (rest.0, (cons_there x xs rest.0 rest.1.0, rest.1.1))
  ]

  pub in_any : (p : X → Bool) (xs : List X) (x : X) → Contains xs x → p x ≡ true → list_any p xs ≡ true
  in_any p xs x c t = elim (cases_Bool (list_any p xs)) [
    | inl some ↦ some
    | inr none ↦ absurd (from_none p xs none x c t)
  ]

module _ {X A : Type 0} (f : X → List A) where
  pub in_flat_map : (xs : List X) (x : X) (y : A) → Contains xs x → Contains (f x) y → Contains (flat_map f xs) y
  in_flat_map [] x y c d = absurd (no_member x c)
  in_flat_map (z ∷ xs) x y c d = elim (cons_cases z xs x c) [
    | inl e ↦ Contains-append_left (f z) (flat_map f xs) y (subst (λ w. Contains (f w) y) (sym e) d)
    | inr r ↦ Contains-append_right (f z) (flat_map f xs) y (in_flat_map xs x y r d)
  ]

  pub from_flat_map : (xs : List X) (y : A) → Contains (flat_map f xs) y → (x : X) × Contains xs x × Contains (f x) y
  from_flat_map [] y c = absurd (no_member y c)
  from_flat_map (z ∷ xs) y c = elim (Contains-append_cases (f z) (flat_map f xs) y c) [
    | inl a ↦ (z, cons_here z xs, a)
    | inr r ↦ let rest = from_flat_map xs y r in (rest.0, cons_there z xs rest.0 rest.1, rest.2)
  ]
