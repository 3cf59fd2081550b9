-- Rows of trees as they are.
use Rattle.std.specs.Prelude.{◌≡◌, ℕ, Bool, true, false, ◌&&◌, ◌||◌, not, nat_eq, List, [], ◌∷◌, ◌++◌}
use Rattle.std.proofs.Common.{refl, sym, ap, ◌∙◌}
use Rattle.std.proofs.lemmas.Bool.{and_parts, false≢true}
use Rattle.vd_forms.specs.declared.form.Form.{Form}
use Rattle.vd_forms.specs.Forms.{same_form}
use Rattle.vd_templates.specs.declared.pieces.Piece.{Piece}
use Rattle.vd_templates.specs.declared.pieces.Piece.TheVariants.{Of, AnyOther, Token, Own, Itself, Part, Listed, Parts, Nothing, EndLine, Inward, Outward}
use Rattle.vd_templates.specs.declared.rows.TheConstants.{TEMPLATES}
use Rattle.vd_templates.specs.declared.states.TheConstants.{AS_IT_IS}
use Rattle.vd_templates.specs.Templates.{up_to_head, behind_heads, row_in, row_of, Item, Written, row_items, piece_items, as_it_is, tree_items}

-- once the head of a tree as it is has been seen, `Itself` stands nowhere behind it
abbrev late : Bool → List Piece → Bool
late seen [] = true
late seen (Of s f ∷ ps) = late (seen || nat_eq s AS_IT_IS) ps
late seen (AnyOther s ∷ ps) = late (seen || nat_eq s AS_IT_IS) ps
late seen (Itself ∷ ps) = not seen && late seen ps
late seen (p ∷ ps) = late seen ps

table_is_late : late false TEMPLATES.now ≡ true
table_is_late = refl

abbrev pub has_none : List Piece → Bool
has_none [] = true
has_none (Itself ∷ ps) = false
has_none (p ∷ ps) = has_none ps

seen_stays : (b : Bool) → (true || b) ≡ true
seen_stays b = refl

none_to_head : (ps : List Piece) → late true ps ≡ true → has_none (up_to_head ps) ≡ true
none_to_head [] h = refl
none_to_head (Of s f ∷ ps) h = refl
none_to_head (AnyOther s ∷ ps) h = refl
none_to_head (Token n ∷ ps) h = none_to_head ps h
none_to_head (Own ∷ ps) h = none_to_head ps h
none_to_head (Itself ∷ ps) h = absurd (false≢true h)
none_to_head (Part i s ∷ ps) h = none_to_head ps h
none_to_head (Listed j n ∷ ps) h = none_to_head ps h
none_to_head (Parts j ∷ ps) h = none_to_head ps h
none_to_head (Nothing ∷ ps) h = none_to_head ps h
none_to_head (EndLine ∷ ps) h = none_to_head ps h
none_to_head (Inward ∷ ps) h = none_to_head ps h
none_to_head (Outward ∷ ps) h = none_to_head ps h

none_behind : (ps : List Piece) → late true ps ≡ true → has_none (behind_heads ps) ≡ true
none_behind [] h = refl
none_behind (Of s f ∷ ps) h = none_behind ps h
none_behind (AnyOther s ∷ ps) h = none_behind ps h
none_behind (Token n ∷ ps) h = none_to_head (Token n ∷ ps) h
none_behind (Own ∷ ps) h = none_to_head (Own ∷ ps) h
none_behind (Itself ∷ ps) h = absurd (false≢true h)
none_behind (Part i s ∷ ps) h = none_to_head (Part i s ∷ ps) h
none_behind (Listed j n ∷ ps) h = none_to_head (Listed j n ∷ ps) h
none_behind (Parts j ∷ ps) h = none_to_head (Parts j ∷ ps) h
none_behind (Nothing ∷ ps) h = none_to_head (Nothing ∷ ps) h
none_behind (EndLine ∷ ps) h = none_to_head (EndLine ∷ ps) h
none_behind (Inward ∷ ps) h = none_to_head (Inward ∷ ps) h
none_behind (Outward ∷ ps) h = none_to_head (Outward ∷ ps) h

or_true : (b : Bool) → (b || true) ≡ true
or_true true = refl
or_true false = refl

module _ (f : Form) where
  at_of : (seen : Bool) (s : ℕ) (g : Form) (ps : List Piece) → ((now : Bool) → late now ps ≡ true → has_none (row_in AS_IT_IS f ps) ≡ true) → (b : Bool) → nat_eq s AS_IT_IS ≡ b → late (seen || b) ps ≡ true
      → has_none (elim b [ true ↦ elim (same_form g f) [ true ↦ behind_heads ps | false ↦ row_in AS_IT_IS f ps ] | false ↦ row_in AS_IT_IS f ps ]) ≡ true
  at_of seen s g ps next true e h = by_form (same_form g f)
    where
      there : late true ps ≡ true
      there = sym (ap (λ b. late b ps) (or_true seen)) ∙ h

      by_form : (b : Bool) → has_none (elim b [ true ↦ behind_heads ps | false ↦ row_in AS_IT_IS f ps ]) ≡ true
      by_form true = none_behind ps there
      by_form false = next true there
  at_of seen s g ps next false e h = next (seen || false) h

  at_other : (seen : Bool) (s : ℕ) (ps : List Piece) → ((now : Bool) → late now ps ≡ true → has_none (row_in AS_IT_IS f ps) ≡ true) → (b : Bool) → nat_eq s AS_IT_IS ≡ b → late (seen || b) ps ≡ true
      → has_none (elim b [ true ↦ behind_heads ps | false ↦ row_in AS_IT_IS f ps ]) ≡ true
  at_other seen s ps next true e h = none_behind ps (sym (ap (λ b. late b ps) (or_true seen)) ∙ h)
  at_other seen s ps next false e h = next (seen || false) h

  none_in : (seen : Bool) (ps : List Piece) → late seen ps ≡ true → has_none (row_in AS_IT_IS f ps) ≡ true
  none_in seen [] h = refl
  none_in seen (Of s g ∷ ps) h = at_of seen s g ps (λ now k. none_in now ps k) (nat_eq s AS_IT_IS) refl h
  none_in seen (AnyOther s ∷ ps) h = at_other seen s ps (λ now k. none_in now ps k) (nat_eq s AS_IT_IS) refl h
  none_in seen (Token n ∷ ps) h = none_in seen ps h
  none_in seen (Own ∷ ps) h = none_in seen ps h
  none_in seen (Itself ∷ ps) h = none_in seen ps (and_parts (not seen) (late seen ps) h).1
  none_in seen (Part i s ∷ ps) h = none_in seen ps h
  none_in seen (Listed j n ∷ ps) h = none_in seen ps h
  none_in seen (Parts j ∷ ps) h = none_in seen ps h
  none_in seen (Nothing ∷ ps) h = none_in seen ps h
  none_in seen (EndLine ∷ ps) h = none_in seen ps h
  none_in seen (Inward ∷ ps) h = none_in seen ps h
  none_in seen (Outward ∷ ps) h = none_in seen ps h

-- no row of a tree as it is speaks of the tree itself
pub as_it_is_bare : (f : Form) → has_none (row_of AS_IT_IS f) ≡ true
as_it_is_bare f = none_in f false TEMPLATES.now table_is_late

module _ (f : Form) (text : List ℕ) (parts : List Written) (i j : List Item) where
  same_rows : (ps : List Piece) → has_none ps ≡ true → row_items f text parts i ps ≡ row_items f text parts j ps
  same_rows [] h = refl
  same_rows (Of s g ∷ ps) h = same_rows ps h
  same_rows (AnyOther s ∷ ps) h = same_rows ps h
  same_rows (Token n ∷ ps) h = ap (λ x. piece_items f text parts j (Token n) ++ x) (same_rows ps h)
  same_rows (Own ∷ ps) h = ap (λ x. piece_items f text parts j Own ++ x) (same_rows ps h)
  same_rows (Itself ∷ ps) h = absurd (false≢true h)
  same_rows (Part k s ∷ ps) h = ap (λ x. piece_items f text parts j (Part k s) ++ x) (same_rows ps h)
  same_rows (Listed k n ∷ ps) h = ap (λ x. piece_items f text parts j (Listed k n) ++ x) (same_rows ps h)
  same_rows (Parts k ∷ ps) h = ap (λ x. piece_items f text parts j (Parts k) ++ x) (same_rows ps h)
  same_rows (Nothing ∷ ps) h = same_rows ps h
  same_rows (EndLine ∷ ps) h = ap (λ x. piece_items f text parts j EndLine ++ x) (same_rows ps h)
  same_rows (Inward ∷ ps) h = ap (λ x. piece_items f text parts j Inward ++ x) (same_rows ps h)
  same_rows (Outward ∷ ps) h = ap (λ x. piece_items f text parts j Outward ++ x) (same_rows ps h)

-- so the tree in the state of trees as they are is the tree as it is
pub in_its_state : (f : Form) (text : List ℕ) (parts : List Written) → tree_items f text parts AS_IT_IS ≡ as_it_is f text parts
in_its_state f text parts = same_rows f text parts (as_it_is f text parts) [] (row_of AS_IT_IS f) (as_it_is_bare f)
