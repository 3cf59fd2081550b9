-- Which part of which node a tree is, and what is done with it.
use Rattle.std.specs.Prelude.{ℕ, Bool, true, false, ◌&&◌, nat_eq, if◌then◌else◌, List, [], ◌∷◌, Option, None, Some}
use Rattle.vd_forms.specs.declared.form.Form.{Form}
use Rattle.vd_forms.specs.declared.form.Form.TheVariants as form
use Rattle.vd_forms.specs.Forms.{same_form}
use Rattle.vd_statements.specs.declared.slots.Change.{Change}
use Rattle.vd_statements.specs.declared.slots.Change.TheVariants as does
use Rattle.vd_statements.specs.declared.slots.Row.{Row}
use Rattle.vd_statements.specs.declared.slots.TheConstants.{ROWS}

-- the rows that stand in the code
abbrev pub all_rows : List Row
all_rows = ROWS.now

-- by the first row of a part
abbrev pub change_in : Form → ℕ → List Row → Change
change_in round at [] = does.Kept
change_in round at (row ∷ rows) = if same_form row.round round && nat_eq row.at at then row.change else change_in round at rows

abbrev pub change_at : Option Form → ℕ → Change
change_at None at = does.Kept
change_at (Some round) at = change_in round at all_rows

-- ---- what is done with trees of a form, wherever they stand: a word that is meant without it, and declarations with a list of names

abbrev pub change_of : Form → Change
change_of form.Inertial = does.Left
change_of form.ConstantDeclaration = does.Each 0
change_of form.SignalDeclaration = does.Each 0
change_of form.VariableDeclaration = does.Each 0
change_of form.RecordElement = does.Each 0
change_of form.PortDeclaration = does.Each 1
change_of form.ViewPort = does.Each 1
change_of form.GenericConstant = does.Each 1
change_of form.ParameterDeclaration = does.Each 1
change_of _ = does.Kept

abbrev pub or_of : Change → Form → Change
or_of does.Kept f = change_of f
or_of change f = change

abbrev pub change_for : Option Form → ℕ → Form → Change
change_for round at f = or_of (change_at round at) f

abbrev pub is_unit : Form → Bool
is_unit form.EntityDeclaration = true
is_unit form.ArchitectureBody = true
is_unit form.PackageDeclaration = true
is_unit form.PackageBody = true
is_unit _ = false
