-- Expressions change nothing of the place and of the design.
use Rattle.std.proofs.Common.{◌≡◌, Bool, true, false, cond, Option, Some, None, refl}
use Rattle.vd_forest.specs.Forest.{Forest, nothing, more}
use Rattle.vd_forms.specs.declared.form.Form.{Form}
use Rattle.vd_forms.specs.declared.form.Form.TheVariants as form
use Rattle.vd_overloads.specs.declared.wanted.Wanted.{Wanted}
use Rattle.vd_name_rows.specs.Designs.{At, Design, Outcome, gives}
use Rattle.vd_name_rows.specs.declared.steps.Want.{Want}
use Rattle.vd_naming.specs.Expressions.{where_known, wanted_at, is_absent, unresolved, expression}

pub record Stays (at : At) (d : Design) (o : Outcome) : Type 0 where
  pub place : o.at ≡ at
  pub design : o.design ≡ d

module _ (at : At) (d : Design) where
  pub known_stays : (w : Option Wanted) (tree : Forest Form) → Stays at d (where_known w at d tree)
  known_stays None tree = record { place = refl; design = refl }
  known_stays (Some w) nothing = record { place = refl; design = refl }
  known_stays (Some w) (more form.DiscreteSubtype text place parts next) = record { place = refl; design = refl }
  known_stays (Some w) (more _ text place parts next) = record { place = refl; design = refl }

  either : (b : Bool) (o p : Outcome) → Stays at d o → Stays at d p → Stays at d (cond b o p)
  either true o p first second = first
  either false o p first second = second

  pub expression_stays : (w : Want) (tree : Forest Form) → Stays at d (expression w at d tree)
  expression_stays w tree =
      either (is_absent tree) (gives at d (unresolved tree) None) (where_known (wanted_at w at d) at d tree)
      (record { place = refl; design = refl }) (known_stays (wanted_at w at d) tree)

-- the place alone
pub place_stays : (w : Want) (at : At) (d : Design) (tree : Forest Form) → (expression w at d tree).at ≡ at
place_stays w at d tree = (expression_stays at d w tree).place
