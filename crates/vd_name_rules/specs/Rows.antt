-- Forms, by what their parts are to them.
use Rattle.std.specs.Prelude.{if◌then◌else◌}
use Rattle.vd_forms.specs.declared.form.Form.{Form}
use Rattle.vd_meaning.specs.Kinds.{kind}
use Rattle.vd_name_rules.specs.declared.rows.Row.{Row}
use Rattle.vd_name_rules.specs.declared.rows.Row.TheVariants.{Branches, Brackets, Choosing, EntityInstance, FunctionInstance, Generics, Guarded, Naming, Operands, PackageInstance, Ports, Reading, SelectedToSignal, SelectedToVariable, ToSignal, ToVariable}
use Rattle.vd_value_rules.specs.Standings.{is_operator_kind}
use Rattle.vd_forms.specs.declared.form.Form.TheVariants as form

abbrev pub row_of_operator : Form → Row
row_of_operator f = if is_operator_kind (kind f) then Operands else Reading

abbrev pub row_of : Form → Row
row_of form.SignalAssignment = ToSignal
row_of form.ConcurrentAssignment = ToSignal
row_of form.VariableAssignment = ToVariable
row_of form.SelectedSignalAssignment = SelectedToSignal
row_of form.SelectedVariableAssignment = SelectedToVariable
row_of form.ConditionalWaveform = Branches
row_of form.ConditionalValue = Branches
row_of form.ConditionalReturn = Branches
row_of form.GuardedWaveform = Guarded
row_of form.GuardedValue = Guarded
row_of form.DelayedWaveform = Guarded
row_of form.SelectedWaveform = Guarded
row_of form.SelectedValue = Guarded
row_of form.Association = Choosing
row_of form.AssociationChoices = Naming
row_of form.Name = Naming
row_of form.OperatorName = Naming
row_of form.Arguments = Brackets
row_of form.GenericMap = Generics
row_of form.PortMap = Ports
row_of form.EntityInstantiation = EntityInstance
row_of form.PackageInstantiation = PackageInstance
row_of form.FunctionInstantiation = FunctionInstance
row_of f = row_of_operator f
