-- Forms that fit slots.
use Rattle.std.proofs.Common.{◌≡◌, ℕ, Bool, true, ◌==◌, List, [], ◌∷◌, ◌++◌, inl, inr, refl, sym, subst, arith, append-nil}
use Rattle.std.specs.List.{list_any}
use Rattle.std.proofs.lemmas.Bool.{and_parts, and_from, or_cases, false≢true}
use Rattle.vd_forms.specs.declared.form.Form.{Form}
use Rattle.vd_forms.specs.Forms.{form_number, same_form, is_among}
use Rattle.vd_forms.specs.Slots.{Slot, One, Many}
use Rattle.vd_forms.specs.Validity.{all_many, fits}
use Rattle.vd_forms.proofs.FormLemmas.{among_one_of}
use Rattle.vd_valid_shapes.specs.Effects.{are_among, all_one, are_covered, one_of, with_behind}

pub same_number : (f g : Form) → same_form f g ≡ true → form_number f ≡ form_number g
same_number f g h = go (form_number f) (form_number g) h
  where
    go : (m n : ℕ) → (m == n) ≡ true → m ≡ n
    go m n e = grind arith

pub among_all : (f : Form) (xs ys : List Form) → is_among xs f ≡ true → are_among ys xs ≡ true → is_among ys f ≡ true
among_all f [] ys h u = absurd (false≢true h)
among_all f (x ∷ xs) ys h u =
    elim (or_cases (same_form f x) (is_among xs f) h) [
      | inl e ↦ subst (λ n. list_any (λ g. n == form_number g) ys ≡ true) (sym (same_number f x e)) (and_parts _ _ u).0
      | inr e ↦ among_all f xs ys e (and_parts (is_among ys x) (are_among ys xs) u).1
    ]

-- any number of trees
many_covered : (xs ys : List Form) (rs ss : List Slot) (fs : List Form) → are_among ys xs ≡ true → all_many ss ≡ true → fits (Many xs ∷ rs) fs ≡ true
    → fits (Many ys ∷ ss) fs ≡ true
many_covered xs ys rs ss [] u e h = e
many_covered xs ys rs ss (f ∷ fs) u e h =
    let p = and_parts (is_among xs f) (fits (Many xs ∷ rs) fs) h in
    and_from (is_among ys f) (fits (Many ys ∷ ss) fs) (among_all f xs ys p.0 u) (many_covered xs ys rs ss fs u e p.1)

pub covered : (rs ss : List Slot) (fs : List Form) → are_covered rs ss ≡ true → fits rs fs ≡ true → fits ss fs ≡ true
covered [] ss [] u h = u
covered [] ss (f ∷ fs) u h = absurd (false≢true h)
covered (One xs ∷ rs) ss [] u h = absurd (false≢true h)
covered (One xs ∷ rs) [] (f ∷ fs) u h = absurd (false≢true u)
covered (One xs ∷ rs) (One ys ∷ ss) (f ∷ fs) u h =
    let p = and_parts (are_among ys xs) (are_covered rs ss) u in
    let q = and_parts (is_among xs f) (fits rs fs) h in
    and_from (is_among ys f) (fits ss fs) (among_all f xs ys q.0 p.0) (covered rs ss fs p.1 q.1)
covered (One xs ∷ rs) (Many ys ∷ ss) (f ∷ fs) u h =
    let p = and_parts (are_among ys xs) (are_covered rs (Many ys ∷ ss)) u in
    let q = and_parts (is_among xs f) (fits rs fs) h in
    and_from (is_among ys f) (fits (Many ys ∷ ss) fs) (among_all f xs ys q.0 p.0) (covered rs (Many ys ∷ ss) fs p.1 q.1)
covered (Many xs ∷ rs) [] fs u h = absurd (false≢true u)
covered (Many xs ∷ rs) (One ys ∷ ss) fs u h = absurd (false≢true u)
covered (Many xs ∷ rs) (Many ys ∷ ss) fs u h =
    let p = and_parts (are_among ys xs) (all_many ss) u in many_covered xs ys rs ss fs p.0 p.1 h

pub one_fits : (f : Form) → fits (one_of f) (f ∷ []) ≡ true
one_fits f = and_from (is_among (f ∷ []) f) true (among_one_of f (f ∷ []) refl) refl

fits_behind : (ss rs : List Slot) (fs gs : List Form) → all_one ss ≡ true → fits ss fs ≡ true → fits rs gs ≡ true → fits (ss ++ rs) (fs ++ gs) ≡ true
fits_behind [] rs [] gs o a b = b
fits_behind [] rs (f ∷ fs) gs o a b = absurd (false≢true a)
fits_behind (One xs ∷ ss) rs [] gs o a b = absurd (false≢true a)
fits_behind (One xs ∷ ss) rs (f ∷ fs) gs o a b =
    let p = and_parts (is_among xs f) (fits ss fs) a in
    and_from (is_among xs f) (fits (ss ++ rs) (fs ++ gs)) p.0 (fits_behind ss rs fs gs o p.1 b)
fits_behind (Many xs ∷ ss) rs fs gs o a b = absurd (false≢true o)

-- what is said of the slots of both is said of slots that both fit, side by side
pub behind : (ss rs : List Slot) (said : List Slot → Bool) (fs gs : List Form) → fits ss fs ≡ true → fits rs gs ≡ true → with_behind ss rs said ≡ true
    → (qs : List Slot) × (fits qs (fs ++ gs) ≡ true) × (said qs ≡ true)
behind ss [] said fs [] a b h = (ss, subst (λ l. fits ss l ≡ true) (sym (append-nil fs)) a, h)
behind ss [] said fs (g ∷ gs) a b h = absurd (false≢true b)
behind ss (x ∷ xs) said fs gs a b h =
    let p = and_parts (all_one ss) (said (ss ++ x ∷ xs)) h in (ss ++ x ∷ xs, fits_behind ss (x ∷ xs) fs gs p.0 a b, p.1)
