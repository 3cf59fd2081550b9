-- Rows that were looked for are kept.
use Rattle.std.proofs.Common.{◌≡◌, ℕ, ◌+◌, ◌*◌, ◌/◌, ◌%◌, ◌<◌, ◌≤◌, true, false, eqb, List, [], ◌∷◌, length, drop, replicate, set, get_or, refl, sym, ap, ◌∙◌, ◌≢◌, ⊎_elim, subst, arith}
use Rattle.std.proofs.lemmas.List.{get_or-set_same, get_or-set_other, length-set, get_or-replicate, length-replicate}
use Rattle.std.proofs.lemmas.Bool.{cases_eq}
use Rattle.vd_forms.specs.declared.form.Form.{Form}
use Rattle.vd_forms.specs.Forms.{form_number, same_form}
use Rattle.vd_templates.specs.declared.pieces.Piece.{Piece}
use Rattle.vd_templates.specs.declared.pieces.Piece.TheVariants.{Of, AnyOther}
use Rattle.vd_templates.specs.Templates.{up_to_head, behind_heads, row_in}
use Rattle.vd_writing.specs.Starts.{IsStart, AreStarts}

-- a row depends on the form's number alone
row_by_number : (s : ℕ) (f g : Form) → form_number f ≡ form_number g → (table : List Piece) → row_in s f table ≡ row_in s g table
row_by_number s f g e [] = refl
row_by_number s f g e (Of state form ∷ ps) =
    ap (λ n. elim (eqb state s) as (λ _. List Piece) [ true ↦ elim (eqb (form_number form) n) as (λ _. List Piece) [ true ↦ behind_heads ps | false ↦ row_in s f ps ] | false ↦ row_in s f ps ]) e
    ∙ ap (λ rest. elim (eqb state s) as (λ _. List Piece) [ true ↦ elim (same_form form g) as (λ _. List Piece) [ true ↦ behind_heads ps | false ↦ rest ] | false ↦ rest ]) (row_by_number s f g e ps)
row_by_number s f g e (AnyOther state ∷ ps) = ap (λ rest. elim (eqb state s) as (λ _. List Piece) [ true ↦ behind_heads ps | false ↦ rest ]) (row_by_number s f g e ps)
row_by_number s f g e (_ ∷ ps) = row_by_number s f g e ps

module _ (table : List Piece) where
  -- what was found is a start
  pub found_start : (at start s : ℕ) (f : Form) → at ≡ form_number f * 23 + s → s < 23 → start ≤ length table → up_to_head (drop start table) ≡ row_in s f table → IsStart table at start
  found_start at start s f e h within row some =
      let number : at / 23 ≡ form_number f = omega arith in
      let state : at % 23 ≡ s = omega arith in
      (within, λ g same. row ∙ (row_by_number s f g (sym (same ∙ number)) table ∙ ap (λ k. row_in k g table) (sym state)))

  -- and a start that is known is one of the form and the state
  pub known_start : (starts : List ℕ) (at s : ℕ) (f : Form) → AreStarts table starts → at < length starts → at ≡ form_number f * 23 + s → s < 23 → 0 < get_or starts at 0
      → (get_or starts at 0 ≤ length table) × (up_to_head (drop (get_or starts at 0) table) ≡ row_in s f table)
  known_start starts at s f all h e small some =
      let number : form_number f ≡ at / 23 = omega arith in
      let state : at % 23 ≡ s = omega arith in
      let k = all at h some in
      (k.0, k.1 f number ∙ ap (λ k. row_in k f table) state)

  pub kept_start : (starts : List ℕ) (at start : ℕ) → AreStarts table starts → at < length starts → IsStart table at start → AreStarts table (set starts at start)
  kept_start starts at start all h is k below = ⊎_elim same other (cases_eq k at)
    where
      same : k ≡ at → IsStart table k (get_or (set starts at start) k 0)
      same e = subst (λ i. IsStart table i (get_or (set starts at start) i 0)) (sym e) (subst (IsStart table at) (sym (get_or-set_same starts at start 0 h)) is)

      other : (k ≢ at) → IsStart table k (get_or (set starts at start) k 0)
      other e = subst (IsStart table k) (sym (get_or-set_other starts at k start 0 e)) (all k (let l = length-set starts at start in omega arith))

  -- at first none is known
  pub none_known : (n : ℕ) → AreStarts table (replicate n 0)
  none_known n k below some = absurd (omega (arith, get_or-replicate {A = ℕ} n k 0 0 (omega (arith, length-replicate {A = ℕ} n 0))))
