-- Members of a memo.
use Rattle.std.proofs.Common.{◌≡◌, ◌⊎◌, inl, inr, ℕ, Bool, true, nat_eq, List, [], ◌∷◌, if◌then◌else◌, refl, sym, ap, subst, ◌∙◌}
use Rattle.std.specs.List.{Contains}
use Rattle.std.proofs.lemmas.Bool.{cases_Bool, and_parts, eqb-true}
use Rattle.indexmap.specs.IndexMap.{insert_entry}
use Rattle.vd_readings.specs.declared.found.Found.{Found}
use Rattle.vd_readings.specs.declared.trials.Asked.{Asked}
use Rattle.vd_states.specs.declared.states.State.{State}
use Rattle.vd_states.specs.contracts.states.StatePartialEq.TheImpl as states
use Rattle.vd_readings.proofs.StateLemmas.{same_state}
use Rattle.vd_readings.proofs.MemberLemmas.{single, cons_cases, cons_here, cons_there}
use Rattle.vd_readings.specs.contracts.trials.AskedPartialEq.TheImpl.{eq-value}

-- the derived comparison is equality
pub same_asked : (a b : Asked) → (eq-value).it a b ≡ true → a ≡ b
same_asked a b h =
    let parts = and_parts (nat_eq a.number b.number) ((states.eq-value).it a.state b.state) h in
    ap (λ (n : ℕ). record { number = n; state = a.state }) (eqb-true a.number b.number parts.0)
    ∙ ap (λ (q : State). record { number = b.number; state = q }) (same_state a.state b.state parts.1)

-- ---- what is put in

module _ (eq : Asked → Asked → Bool) (same : (a b : Asked) → eq a b ≡ true → a ≡ b) where
  first_parts : (a b : Asked) (f g : Found) (es : List (Asked × Found)) → (k : Asked × Found) → k ≡ (a, f) → (b, g) ≡ k → (a ≡ b) × (f ≡ g)
  first_parts a b f g es k x y = (ap (λ (p : Asked × Found). p.0) (sym x) ∙ ap (λ (p : Asked × Found). p.0) (sym y), ap (λ (p : Asked × Found). p.1) (sym x) ∙ ap (λ (p : Asked × Found). p.1) (sym y))

  pub put_others : (asked : Asked) (found : Found) (es : List (Asked × Found)) (a : Asked) (f : Found)
      → Contains (insert_entry eq es asked found) (a, f) → ((a ≡ asked) × (f ≡ found)) ⊎ Contains es (a, f)
  put_others asked found [] a f c = inl (first_parts a asked f found [] (asked, found) (single (asked, found) (a, f) c) refl)
  put_others asked found (e ∷ es) a f c = elim (cases_Bool (eq asked e.0)) [
    | inl t ↦
        let d = subst (λ zs. Contains zs (a, f)) (ap (λ b. if b then (e.0, found) ∷ es else e ∷ insert_entry eq es asked found) t) c in
        elim (cons_cases (e.0, found) es (a, f) d) [
          | inl is ↦ let p = first_parts a e.0 f found es (e.0, found) is refl in inl (p.0 ∙ sym (same asked e.0 t), p.1)
          | inr later ↦ inr (cons_there e es (a, f) later)
        ]
    | inr n ↦
        let d = subst (λ zs. Contains zs (a, f)) (ap (λ b. if b then (e.0, found) ∷ es else e ∷ insert_entry eq es asked found) n) c in
        elim (cons_cases e (insert_entry eq es asked found) (a, f) d) [
          | inl is ↦ inr (subst (λ z. Contains (e ∷ es) z) is (cons_here e es))
          | inr later ↦ elim (put_others asked found es a f later) [ inl p ↦ inl p | inr older ↦ inr (cons_there e es (a, f) older) ]
        ]
  ]
