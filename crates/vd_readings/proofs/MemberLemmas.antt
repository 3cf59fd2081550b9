-- Members of lists.
use Rattle.std.proofs.Common.{◌≡◌, ◌⊎◌, inl, inr, zero, suc, List, [], ◌∷◌, ◌++◌, map, refl, sym, ap, subst, ◌∙◌, arith}
use Rattle.std.specs.List.{Contains, flat_map}
use Rattle.std.proofs.lemmas.List.Elements.{Contains-append_left, Contains-append_right, Contains-append_cases}

module _ {X : Type 0} where
  pub single : (x y : X) → Contains (x ∷ []) y → x ≡ y
  single x y (zero, within, is) = is
  single x y (suc k, within, is) = absurd (omega (arith, within))

  pub cons_cases : (x : X) (xs : List X) (y : X) → Contains (x ∷ xs) y → (x ≡ y) ⊎ Contains xs y
  cons_cases x xs y c = elim (Contains-append_cases (x ∷ []) xs y c) [ inl a ↦ inl (single x y a) | inr b ↦ inr b ]

  pub cons_here : (x : X) (xs : List X) → Contains (x ∷ xs) x
  cons_here x xs = (0, omega arith, refl)

  pub cons_there : (x : X) (xs : List X) (y : X) → Contains xs y → Contains (x ∷ xs) y
  cons_there x xs y c = Contains-append_right (x ∷ []) xs y c

  pub no_member : (y : X) → Contains [] y → ⊥
  no_member y (k, within, is) = omega (arith, within)

module _ {X A : Type 0} (f : X → List A) where
  pub in_flat_map : (xs : List X) (x : X) (y : A) → Contains xs x → Contains (f x) y → Contains (flat_map f xs) y
  in_flat_map [] x y c d = absurd (no_member x c)
  in_flat_map (z ∷ xs) x y c d = elim (cons_cases z xs x c) [
    | inl e ↦ Contains-append_left (f z) (flat_map f xs) y (subst (λ w. Contains (f w) y) (sym e) d)
    | inr r ↦ Contains-append_right (f z) (flat_map f xs) y (in_flat_map xs x y r d)
  ]

  pub from_flat_map : (xs : List X) (y : A) → Contains (flat_map f xs) y → (x : X) × Contains xs x × Contains (f x) y
  from_flat_map [] y c = absurd (no_member y c)
  from_flat_map (z ∷ xs) y c = elim (Contains-append_cases (f z) (flat_map f xs) y c) [
    | inl a ↦ (z, cons_here z xs, a)
    | inr r ↦ let rest = from_flat_map xs y r in (rest.0, cons_there z xs rest.0 rest.1, rest.2)
  ]

  -- the same of each member
  pub flat_map_same : (g : X → List A) (xs : List X) → ((x : X) → Contains xs x → f x ≡ g x) → flat_map f xs ≡ flat_map g xs
  flat_map_same g [] same = refl
  flat_map_same g (x ∷ xs) same =
      ap (λ ys. ys ++ flat_map f xs) (same x (cons_here x xs))
      ∙ ap (λ ys. g x ++ ys) (flat_map_same g xs (λ y c. same y (cons_there x xs y c)))

module _ {X Y : Type 0} (f : X → Y) where
  pub in_map : (xs : List X) (x : X) → Contains xs x → Contains (map f xs) (f x)
  in_map [] x c = absurd (no_member x c)
  in_map (z ∷ xs) x c = elim (cons_cases z xs x c) [
    | inl e ↦ subst (λ w. Contains (f z ∷ map f xs) (f w)) e (cons_here (f z) (map f xs))
    | inr r ↦ cons_there (f z) (map f xs) (f x) (in_map xs x r)
  ]

  pub from_map : (xs : List X) (y : Y) → Contains (map f xs) y → (x : X) × Contains xs x × (f x ≡ y)
  from_map [] y c = absurd (no_member y c)
  from_map (z ∷ xs) y c = elim (cons_cases (f z) (map f xs) y c) [
    | inl e ↦ (z, cons_here z xs, e)
    | inr r ↦ let rest = from_map xs y r in (rest.0, cons_there z xs rest.0 rest.1, rest.2)
  ]
