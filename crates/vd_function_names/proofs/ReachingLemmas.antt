-- The declaration that a name reaches, piece by piece. No name has a dash, so that a caller can name each in `#[tactic(auto, using(..))]`.
use Rattle.std.proofs.Common.{◌≡◌, ℕ, Bool, true, false, List, Option, ◌||◌, refl, ap, ◌∙◌}
use Rattle.std.specs.Prelude.{if◌then◌else◌}
use Rattle.vd_bytes.specs.declared.places.Place.{Place}
use Rattle.vd_forest.specs.Forest.{Forest, nothing, more}
use Rattle.vd_forms.specs.declared.form.Form.{Form}
use Rattle.vd_function_names.specs.Steps.{step_of}
use Rattle.vd_function_names.specs.declared.reaching.Step.{Step}
use Rattle.vd_meaning.specs.Tables.{ElementRole, FunctionRole, MarkRole, Role, Table, role_of}
use Rattle.vd_resolved.specs.declared.node.Resolved.{Resolved}
use Rattle.vd_value_rules.specs.Designs.{Design}
use Rattle.vd_value_rules.specs.Reaching.{Reached, first_reached, is_over, reached, reached_behind, selected_in, bracketed_in, with_piece}
use Rattle.vd_forms.specs.declared.form.Form.TheVariants as form
use Rattle.vd_function_names.specs.declared.reaching.Step.TheVariants as step

-- what is named behind a piece, and then behind the others
abbrev pub behind_step : Step → Option ℕ → Option ℕ → (Option ℕ → Option ℕ) → Option ℕ
behind_step step.Stays number selected rest = rest number
behind_step step.Selects number selected rest = rest selected
behind_step step.Ends number selected rest = number

abbrev pub reached_from : Table → Forest Resolved → Option ℕ → Option ℕ
reached_from t nothing number = number
reached_from t (more n text place parts next) number =
    behind_step (step_of n.form (role_of t n.declaration)) number n.declaration (reached_from t next)

module _ (d : Design) where
  -- behind an end all stays as it is
  stays_behind : (f : Forest Resolved) (r : Reached) → is_over r ≡ true → reached_behind d f r ≡ r
  stays_behind nothing r over = refl
  stays_behind (more n text place parts next) r over =
      ap (λ b. reached_behind d next (if b then r else with_piece n.form d n parts r)) over ∙ stays_behind next r over

  abbrev Follows : Step → Resolved → Reached → Reached → Type 0
  Follows step.Stays n r r' = (r'.declaration ≡ r.declaration) × (is_over r' ≡ false)
  Follows step.Selects n r r' = (r'.declaration ≡ n.declaration) × (is_over r' ≡ false)
  Follows step.Ends n r r' = (r'.declaration ≡ r.declaration) × (is_over r' ≡ true)

  selection_follows : (role : Role) (n : Resolved) (r : Reached) → is_over r ≡ false → Follows (step_of form.Selection role) n r (selected_in role d n r)
  selection_follows ElementRole n r on = (refl, on)
  selection_follows _ n r on = (refl, refl)

  brackets_follow : (role : Role) (n : Resolved) (r : Reached) → is_over r ≡ false → Follows (step_of form.Arguments role) n r (bracketed_in role r)
  brackets_follow FunctionRole n r on = (refl, refl)
  brackets_follow MarkRole n r on = (refl, refl)
  brackets_follow _ n r on = (refl, on)

  or_true : (b : Bool) → (b || true) ≡ true
  or_true true = refl
  or_true false = refl

  piece_follows : (f : Form) (n : Resolved) (parts : Forest Resolved) (r : Reached) → is_over r ≡ false
      → Follows (step_of f (role_of d.table n.declaration)) n r (with_piece f d n parts r)
  piece_follows form.Selection n parts r on = selection_follows (role_of d.table n.declaration) n r on
  piece_follows form.Arguments n parts r on = brackets_follow (role_of d.table n.declaration) n r on
  piece_follows form.Attribute n parts r on = (refl, or_true r.is_value)
  piece_follows form.RangeAttribute n parts r on = (refl, or_true r.is_value)
  piece_follows form.Qualification n parts r on = (refl, refl)
  piece_follows _ n parts r on = (refl, on)

  behind_piece : (next : Forest Resolved) (n : Resolved) (r : Reached)
      → ((q : Reached) → is_over q ≡ false → (reached_behind d next q).declaration ≡ reached_from d.table next q.declaration)
      → (s : Step) (q : Reached) → Follows s n r q
      → (reached_behind d next q).declaration ≡ behind_step s r.declaration n.declaration (reached_from d.table next)
  behind_piece next n r rest step.Stays q follows = rest q follows.1 ∙ ap (reached_from d.table next) follows.0
  behind_piece next n r rest step.Selects q follows = rest q follows.1 ∙ ap (reached_from d.table next) follows.0
  behind_piece next n r rest step.Ends q follows = ap (λ (p : Reached). p.declaration) (stays_behind next q follows.1) ∙ follows.0

  pub reached_behind_is : (f : Forest Resolved) (r : Reached) → is_over r ≡ false
      → (reached_behind d f r).declaration ≡ reached_from d.table f r.declaration
  reached_behind_is nothing r on = refl
  reached_behind_is (more n text place parts next) r on =
      ap (λ b. (reached_behind d next (if b then r else with_piece n.form d n parts r)).declaration) on
      ∙ behind_piece next n r (reached_behind_is next) (step_of n.form (role_of d.table n.declaration)) (with_piece n.form d n parts r)
      (piece_follows n.form n parts r on)

  pub reached_is : (n : Resolved) (text : List ℕ) (place : Place) (parts next : Forest Resolved)
      → (reached d (more n text place parts next)).declaration ≡ reached_from d.table next n.declaration
  reached_is n text place parts next = reached_behind_is next (first_reached n) refl
