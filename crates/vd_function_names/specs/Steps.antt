-- What the pieces of a name do to what is named in front of them.
use Rattle.vd_forms.specs.declared.form.Form.{Form}
use Rattle.vd_function_names.specs.declared.reaching.Step.{Step}
use Rattle.vd_function_names.specs.declared.reaching.Step.TheVariants.{Ends, Selects, Stays}
use Rattle.vd_meaning.specs.Tables.{ElementRole, FunctionRole, MarkRole, Role}
use Rattle.vd_forms.specs.declared.form.Form.TheVariants as form

-- behind a point stands a record element, or what a unit declares; behind a call or an attribute no object is named any more
abbrev pub step_of_selection : Role → Step
step_of_selection ElementRole = Stays
step_of_selection _ = Selects

abbrev pub step_of_brackets : Role → Step
step_of_brackets FunctionRole = Ends
step_of_brackets MarkRole = Ends
step_of_brackets _ = Stays

abbrev pub step_of : Form → Role → Step
step_of form.Selection r = step_of_selection r
step_of form.Arguments r = step_of_brackets r
step_of form.Attribute r = Ends
step_of form.RangeAttribute r = Ends
step_of form.Qualification r = Ends
step_of _ r = Stays
