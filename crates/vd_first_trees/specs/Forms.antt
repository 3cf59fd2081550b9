-- Forms by number, in the order of their declaration.
use Rattle.std.specs.Prelude.{ℕ, Bool, ◌==◌}
use Rattle.vd_first_trees.specs.declared.form.Form.{Form}
use Rattle.vd_first_trees.specs.declared.form.Form.TheVariants as form

abbrev pub form_number : Form → ℕ
form_number form.DesignUnit = 0
form_number form.ContextClause = 1
form_number form.LibraryClause = 2
form_number form.UseClause = 3
form_number form.SelectedName = 4
form_number form.Identifier = 5
form_number form.All = 6
form_number form.EntityDeclaration = 7
form_number form.PortClause = 8
form_number form.PortDeclaration = 9
form_number form.IdentifierList = 10
form_number form.In = 11
form_number form.Out = 12
form_number form.SubtypeIndication = 13
form_number form.ArchitectureBody = 14
form_number form.StatementPart = 15
form_number form.ProcessStatement = 16
form_number form.SensitivityList = 17
form_number form.SignalAssignment = 18
form_number form.Name = 19
form_number form.And = 20
form_number form.Not = 21
form_number form.Closing = 22
form_number form.Is = 23
form_number form.Absent = 24

abbrev pub same_form : Form → Form → Bool
same_form f g = form_number f == form_number g
