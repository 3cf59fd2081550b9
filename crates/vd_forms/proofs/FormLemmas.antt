-- Forms and lists of forms.
use Rattle.std.proofs.Common.{◌≡◌, ℕ, Bool, true, false, ◌||◌, ◌==◌, List, [], ◌∷◌, ◌⊎◌, inl, inr, refl, ap, subst, ◌∙◌, arith}
use Rattle.vd_forms.specs.declared.form.Form.{Form}
use Rattle.vd_forms.specs.Forms.{form_number, same_form, is_among}

pub same_itself : (f : Form) → same_form f f ≡ true
same_itself f = go (form_number f)
  where
    go : (n : ℕ) → (n == n) ≡ true
    go n = grind arith

-- the form is this one or that one
abbrev pub OneOf : Form → List Form → Type 0
OneOf f [] = ⊥
OneOf f (g ∷ []) = f ≡ g
OneOf f (g ∷ h ∷ gs) = (f ≡ g) ⊎ OneOf f (h ∷ gs)

-- the first of a list is among it
among_first : (f g : Form) (gs : List Form) → f ≡ g → is_among (g ∷ gs) f ≡ true
among_first f g gs e = subst (λ h. is_among (h ∷ gs) f ≡ true) e (ap (λ b. b || is_among gs f) (same_itself f))

among_later : (f g : Form) (gs : List Form) → is_among gs f ≡ true → is_among (g ∷ gs) f ≡ true
among_later f g gs h = ap (λ b. same_form f g || b) h ∙ or_true (same_form f g)
  where
    or_true : (b : Bool) → (b || true) ≡ true
    or_true true = refl
    or_true false = refl

pub among_one_of : (f : Form) (fs : List Form) → OneOf f fs → is_among fs f ≡ true
among_one_of f [] h = absurd h
among_one_of f (g ∷ []) h = among_first f g [] h
among_one_of f (g ∷ h ∷ gs) e =
    elim e [ inl is ↦ among_first f g (h ∷ gs) is | inr later ↦ among_later f g (h ∷ gs) (among_one_of f (h ∷ gs) later) ]
