-- Forms by their sorts.
use Rattle.std.proofs.Common.{◌≡◌, ◌≢◌, ◌∙◌, Bool, Option, Some, ap, sym, if◌then◌else◌, refl, ℕ}
use Rattle.vd_bound_rules.specs.Sorts.{called_as, indication_of, number_in, operands_as, operands_in, place_in, unconstrained_at}
use Rattle.vd_bound_rules.specs.declared.sorts.Indication.{Indication}
use Rattle.vd_bound_rules.specs.declared.sorts.Operands.TheVariants.{NoPart, TwoParts}
use Rattle.vd_bytes.specs.declared.answers.Refused.{Refused}
use Rattle.vd_bytes.specs.declared.places.Place.{Place}
use Rattle.vd_forest.specs.Forest.{Forest}
use Rattle.vd_forms.specs.declared.form.Form.{Form}
use Rattle.vd_forms.specs.declared.form.Form.TheVariants as form
use Rattle.vd_walks.specs.Least.{least_of}
use Rattle.vd_meaning.specs.Kinds.{kind}
use Rattle.vd_meaning.specs.Tables.{FunctionRole, Role, followed, is_brought}
use Rattle.vd_resolved.specs.declared.node.Resolved.{Resolved}
use Rattle.vd_value_rules.specs.Bounds.{has_no_bounds, is_operator_called, operands_of, unconstrained}
use Rattle.vd_value_rules.specs.Designs.{Design, class_of}
use Rattle.vd_value_rules.specs.Judging.{refused_if}
use Rattle.vd_value_rules.specs.Standings.{State, is_operator_kind}

-- what is neither a statement with a selector nor a list in brackets
pub operands_of_other : (f : Form) → f ≢ form.CaseStatement → f ≢ form.SelectedSignalAssignment → f ≢ form.SelectedVariableAssignment
    → f ≢ form.CaseGenerate → f ≢ form.Arguments → operands_in f ≡ (if is_operator_kind (kind f) then TwoParts else NoPart)
operands_of_other form.CaseStatement a b c e g = absurd (a refl)
operands_of_other form.SelectedSignalAssignment a b c e g = absurd (b refl)
operands_of_other form.SelectedVariableAssignment a b c e g = absurd (c refl)
operands_of_other form.CaseGenerate a b c e g = absurd (e refl)
operands_of_other form.Arguments a b c e g = absurd (g refl)
operands_of_other _ a b c e g = refl

module _ (d : Design) (s : State) where
  pub operands_by_sort : (f : Form) (n : Resolved) (parts : Forest Resolved) → operands_of f d s n parts ≡ operands_as (operands_in f) d s n parts
  operands_by_sort form.CaseStatement n parts = refl
  operands_by_sort _ n parts = refl

  pub unconstrained_by_sort : (f : Form) (place : Place) (parts : Forest Resolved)
      → unconstrained f d s place parts ≡ unconstrained_at (number_in (indication_of f)) d s (place_in (indication_of f) place parts) parts
  unconstrained_by_sort form.SignalDeclaration place parts = refl
  unconstrained_by_sort _ place parts = refl

  pub unconstrained_found : (f : Form) (place : Place) (parts : Forest Resolved) (i : Indication) (n : ℕ) (b : Bool) (p : Place) (r : Option Refused)
      → i ≡ indication_of f → Some n ≡ number_in i → b ≡ has_no_bounds d s n parts → p ≡ place_in i place parts → r ≡ least_of (refused_if b p 410)
      → r ≡ least_of (unconstrained f d s place parts)
  unconstrained_found f place parts i n b p r indication number found at refused =
      refused ∙ ap (λ c. least_of (refused_if c p 410)) found ∙ ap (λ q. least_of (refused_if (has_no_bounds d s n parts) q 410)) at
      ∙ ap (λ o. least_of (unconstrained_at o d s (place_in i place parts) parts)) number
      ∙ ap (λ j. least_of (unconstrained_at (number_in j) d s (place_in j place parts) parts)) indication
      ∙ ap least_of (sym (unconstrained_by_sort f place parts))

pub called_is : (d : Design) (r : Role) (f : ℕ) → called_as r (is_brought (class_of d (followed d.table f))) ≡ is_operator_called r d f
called_is d FunctionRole f = refl
called_is d _ f = refl
