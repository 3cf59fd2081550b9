-- The row of a tree, as a walk through the table finds it.
use Rattle.std.proofs.Common.{◌≡◌, ℕ, ◌+◌, ◌<◌, Bool, true, false, eqb, ◌&&◌, List, ◌∷◌, length, drop, get_or, refl, sym, ap, ◌∙◌}
use Rattle.std.proofs.lemmas.List.{drop_more}
use Rattle.std.proofs.lemmas.Bool.{true≢false}
use Rattle.vd_forms.specs.declared.form.Form.{Form}
use Rattle.vd_forms.specs.Forms.{same_form}
use Rattle.vd_templates.specs.declared.pieces.Piece.{Piece}
use Rattle.vd_templates.specs.declared.pieces.Piece.TheVariants.{Of, AnyOther}
use Rattle.vd_templates.specs.Templates.{up_to_head, behind_heads, row_in}
use Rattle.vd_writing.specs.Heads.{is_head, is_head_for}

-- a piece that is no head for the tree is passed
pub other_head : (s : ℕ) (f : Form) (p : Piece) (ps : List Piece) → is_head_for s f p ≡ false → row_in s f (p ∷ ps) ≡ row_in s f ps
other_head s f (Of state form) ps e = by (eqb state s) (same_form form f) e
  where
    by : (a b : Bool) → (a && b) ≡ false
        → (elim a as (λ _. List Piece) [ true ↦ elim b as (λ _. List Piece) [ true ↦ behind_heads ps | false ↦ row_in s f ps ] | false ↦ row_in s f ps ]) ≡ row_in s f ps
    by true true h = absurd (true≢false h)
    by true false h = refl
    by false b h = refl
other_head s f (AnyOther state) ps e = by (eqb state s) e
  where
    by : (a : Bool) → a ≡ false → (elim a as (λ _. List Piece) [ true ↦ behind_heads ps | false ↦ row_in s f ps ]) ≡ row_in s f ps
    by true h = absurd (true≢false h)
    by false h = refl
other_head s f _ ps e = refl

-- one that is a head begins its row
pub head_there : (s : ℕ) (f : Form) (p : Piece) (ps : List Piece) → is_head_for s f p ≡ true → row_in s f (p ∷ ps) ≡ behind_heads (p ∷ ps)
head_there s f (Of state form) ps e = by (eqb state s) (same_form form f) e
  where
    by : (a b : Bool) → (a && b) ≡ true
        → (elim a as (λ _. List Piece) [ true ↦ elim b as (λ _. List Piece) [ true ↦ behind_heads ps | false ↦ row_in s f ps ] | false ↦ row_in s f ps ]) ≡ behind_heads ps
    by true true h = refl
    by true false h = absurd (true≢false (sym h))
    by false b h = absurd (true≢false (sym h))
head_there s f (AnyOther state) ps e = by (eqb state s) e
  where
    by : (a : Bool) → a ≡ true → (elim a as (λ _. List Piece) [ true ↦ behind_heads ps | false ↦ row_in s f ps ]) ≡ behind_heads ps
    by true h = refl
    by false h = absurd (true≢false (sym h))
head_there s f _ ps e = absurd (true≢false (sym e))

-- behind heads a row begins
pub no_head : (p : Piece) (ps : List Piece) → is_head p ≡ false → behind_heads (p ∷ ps) ≡ up_to_head (p ∷ ps)
no_head (Of state form) ps e = absurd (true≢false e)
no_head (AnyOther state) ps e = absurd (true≢false e)
no_head _ ps e = refl

pub head_passed : (p : Piece) (ps : List Piece) → is_head p ≡ true → behind_heads (p ∷ ps) ≡ behind_heads ps
head_passed (Of state form) ps e = refl
head_passed (AnyOther state) ps e = refl
head_passed _ ps e = absurd (true≢false (sym e))

module _ (table : List Piece) (at : ℕ) (d : Piece) (h : at < length table) where
  pub head_skipped : (s : ℕ) (f : Form) → is_head_for s f (get_or table at d) ≡ false → row_in s f (drop at table) ≡ row_in s f (drop (at + 1) table)
  head_skipped s f e = ap (row_in s f) (drop_more table at d h) ∙ other_head s f (get_or table at d) (drop (at + 1) table) e

  pub head_found : (s : ℕ) (f : Form) → is_head_for s f (get_or table at d) ≡ true → row_in s f (drop at table) ≡ behind_heads (drop at table)
  head_found s f e =
      ap (row_in s f) (drop_more table at d h) ∙ (head_there s f (get_or table at d) (drop (at + 1) table) e ∙ ap behind_heads (sym (drop_more table at d h)))

  pub passed_head : is_head (get_or table at d) ≡ true → behind_heads (drop at table) ≡ behind_heads (drop (at + 1) table)
  passed_head e = ap behind_heads (drop_more table at d h) ∙ head_passed (get_or table at d) (drop (at + 1) table) e

  pub row_begins : is_head (get_or table at d) ≡ false → up_to_head (drop at table) ≡ behind_heads (drop at table)
  row_begins e =
      ap up_to_head (drop_more table at d h) ∙ (sym (no_head (get_or table at d) (drop (at + 1) table) e) ∙ ap behind_heads (sym (drop_more table at d h)))
