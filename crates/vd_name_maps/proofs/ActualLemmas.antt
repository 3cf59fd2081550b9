-- What an actual means hangs on its first tree alone.
use Rattle.std.proofs.Common.{◌≡◌, refl}
use Rattle.vd_forest.specs.Forest.{Forest, nothing, more, with_next}
use Rattle.vd_forms.specs.declared.form.Form.{Form}
use Rattle.vd_forms.specs.declared.form.Form.TheVariants as form
use Rattle.vd_visible.specs.Sights.{Sight}
use Rattle.vd_naming.specs.Actuals.{actual_meant}

pub first_meant : (s : Sight) (tree : Forest Form) → actual_meant s (with_next tree nothing) ≡ actual_meant s tree
first_meant s nothing = refl
first_meant s (more form.Quoted text place parts next) = refl
first_meant s (more form.Name text place parts next) = refl
first_meant s (more _ text place parts next) = refl
