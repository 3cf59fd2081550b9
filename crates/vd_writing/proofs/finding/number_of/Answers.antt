use Rattle.std.proofs.Common.{◌≡◌, refl}
use denote.Enum.Declared.{tag_of}
use Rattle.vd_forms.specs.contracts.form.Form.{the_type}
use Rattle.vd_forms.specs.declared.form.Form.{Form}
use Rattle.vd_forms.specs.declared.form.Form.TheVariants as form
use Rattle.vd_forms.specs.Forms.{form_number}
use Rattle.vd_writing.proofs.finding.number_of.Goals as goal

number_is : (f : Form) → tag_of the_type f ≡ form_number f
number_is form.DesignUnit = refl
number_is _ = refl

pub returns : goal.returns
returns c = number_is c.args.form
