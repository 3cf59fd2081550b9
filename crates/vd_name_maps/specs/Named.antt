-- Elements behind which none stands for a place.
use Rattle.std.specs.Prelude.{Bool, true, false}
use Rattle.vd_forms.specs.declared.form.Form.{Form}
use Rattle.vd_forms.specs.declared.form.Form.TheVariants as form

abbrev pub is_named : Form → Bool
is_named form.Association = true
is_named form.OthersAssociation = true
is_named _ = false
