-- Forms that are opened, by any row.
use Rattle.std.proofs.Common.{◌≡◌, ◌∙◌, ℕ, Option, None, refl, ap}
use Rattle.vd_bytes.specs.declared.answers.Refused.{Refused}
use Rattle.vd_bytes.specs.declared.places.Place.{Place}
use Rattle.vd_forest.specs.Forest.{Forest}
use Rattle.vd_forms.specs.declared.form.Form.{Form}
use Rattle.vd_name_rows.specs.Designs.{At, Design}
use Rattle.vd_name_rows.specs.Rows.{Row}
use Rattle.vd_name_rows.specs.declared.steps.Opening.{Opening}
use Rattle.vd_naming.specs.Openings.{opens, opened_as, next_in, with_steps}
use Rattle.vd_name_units.specs.Opened.{IsOpened}

pub opened_within : (d : Design) (at new : At) (r : Row) (n next : ℕ) → n ≡ next → ((e : Design) → new ≡ (with_steps r n (opens at e)).at)
    → IsOpened d new None (with_steps r next (opens at d))
opened_within d at new r n next same steps = record {
  design = refl;
  at = steps d ∙ ap (λ m. (with_steps r m (opens at d)).at) same;
  first = refl;
}

pub opened_by : (d e : Design) (at inside new : At) (refused : Option Refused) (r : Row) (k : Opening) (n : ℕ) (place : Place) (parts : Forest Form)
    → k ≡ r.opening → n ≡ next_in k at d → IsOpened e inside refused (opened_as k at d place parts)
    → ((g : Design) → new ≡ (with_steps r n (opens inside g)).at)
    → IsOpened e new refused (with_steps r (next_in r.opening at d) (opened_as r.opening at d place parts))
opened_by d e at inside new refused r k n place parts same next_is is steps = record {
  design = is.design ∙ ap (λ o. (opened_as o at d place parts).design) same;
  at =
      steps d
      ∙ ap (λ m. (with_steps r m (opens inside d)).at) (next_is ∙ ap (λ o. next_in o at d) same)
      ∙ ap (λ a. (with_steps r (next_in r.opening at d) (opens a d)).at) (is.at ∙ ap (λ o. (opened_as o at d place parts).at) same);
  first = is.first ∙ ap (λ o. (opened_as o at d place parts).first) same;
}
