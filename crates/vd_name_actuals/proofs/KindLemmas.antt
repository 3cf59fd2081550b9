-- What an actual comes to that isn't `open`.
use Rattle.std.proofs.Common.{◌≡◌, ℕ, true, false, refl}
use Rattle.std.proofs.lemmas.Bool.{both_ways}
use Rattle.vd_bytes.specs.declared.places.Place.{Place}
use Rattle.vd_declarations.specs.declared.classes.Class.{Class}
use Rattle.vd_declarations.specs.declared.classes.Class.TheVariants as class
use Rattle.vd_forest.specs.Forest.{Forest, nothing, more}
use Rattle.vd_forms.specs.declared.form.Form.{Form}
use Rattle.vd_forms.specs.declared.form.Form.TheVariants as form
use Rattle.vd_name_rows.specs.Designs.{At, Design}
use Rattle.vd_naming.specs.Associations.{is_open}
use Rattle.vd_naming.specs.Actuals.{Known, outcome_for}
use Rattle.vd_name_actuals.specs.Kinds.{by_class}

module _ (at : At) (d : Design) (k : Known) (g : ℕ) (place : Place) where
  pub not_open : (c : Class) (tree : Forest Form) → is_open tree ≡ false → outcome_for c at d k g place tree ≡ by_class c at d k g place tree
  not_open class.GenericType nothing other = refl
  not_open class.GenericFunction nothing other = refl
  not_open _ nothing other = refl
  not_open class.GenericType (more form.Open text place' parts next) other = absurd (both_ways true other refl)
  not_open class.GenericType (more _ text place' parts next) other = refl
  not_open class.GenericFunction (more form.Open text place' parts next) other = absurd (both_ways true other refl)
  not_open class.GenericFunction (more _ text place' parts next) other = refl
  not_open _ (more form.Open text place' parts next) other = absurd (both_ways true other refl)
  not_open _ (more _ text place' parts next) other = refl
