-- Which parts of a node hold the declarations that it makes: a row for each form that makes some. (IEEE 1076, declarations.)
use Rattle.std.specs.Prelude.{ℕ, Bool, true, false, List, [], ◌∷◌, Option, Some, None, if◌then◌else◌}
use Rattle.vd_forms.specs.declared.form.Form.{Form}
use Rattle.vd_forms.specs.declared.form.Form.TheVariants as form
use Rattle.vd_forms.specs.Forms.{same_form}
use Rattle.vd_notes.specs.declared.declares.Names.{Names}
use Rattle.vd_notes.specs.declared.declares.Names.TheVariants as names
use Rattle.vd_notes.specs.declared.declares.Row.{Row}

-- a unit, in whose parts all stands that it declares
abbrev unit : Form → Row
unit f = record { form = f; names = names.Itself; mark = None; is_unit = true }

-- one that names another one behind so many parts, as an architecture its entity
abbrev unit_of : Form → ℕ → Row
unit_of f place = record { form = f; names = names.Itself; mark = Some place; is_unit = true }

-- a node that carries the number of what it declares, and one that does and has a mark behind so many parts
abbrev itself : Form → Row
itself f = record { form = f; names = names.Itself; mark = None; is_unit = false }

abbrev itself_of : Form → ℕ → Row
itself_of f mark = record { form = f; names = names.Itself; mark = Some mark; is_unit = false }

-- one whose first part carries it
abbrev label : Form → Row
label f = record { form = f; names = names.First; mark = None; is_unit = false }

-- one with a list of names behind so many parts, without a mark, and with one
abbrev names_at : Form → ℕ → Row
names_at f place = record { form = f; names = names.List place; mark = None; is_unit = false }

abbrev objects : Form → ℕ → ℕ → Row
objects f place mark = record { form = f; names = names.List place; mark = Some mark; is_unit = false }

-- The rows. The body of a package declares nothing that the package doesn't
abbrev pub all_rows : List Row
all_rows =
    unit form.EntityDeclaration
    ∷ unit_of form.ArchitectureBody 1
    ∷ unit form.PackageDeclaration
    ∷ record { form = form.PackageBody; names = names.Nowhere; mark = None; is_unit = true }
    ∷ unit form.PackageInstantiation
    ∷ unit form.ContextDeclaration
    ∷ objects form.GenericConstant 1 3
    ∷ itself form.GenericType
    ∷ itself_of form.GenericFunction 3
    ∷ objects form.PortDeclaration 1 3
    ∷ names_at form.ViewPort 1
    ∷ objects form.ParameterDeclaration 1 3
    ∷ objects form.ConstantDeclaration 0 1
    ∷ objects form.SignalDeclaration 0 1
    ∷ objects form.VariableDeclaration 0 1
    ∷ itself form.TypeDeclaration
    ∷ itself_of form.SubtypeDeclaration 1
    ∷ record { form = form.EnumerationType; names = names.All; mark = None; is_unit = false }
    ∷ objects form.RecordElement 0 1
    ∷ itself form.ViewDeclaration
    ∷ itself form.FunctionInstantiation
    ∷ itself_of form.FunctionDeclaration 5
    ∷ itself_of form.FunctionBody 5
    ∷ label form.LabelledStatement
    ∷ itself form.ForLoop
    ∷ label form.LabelledConcurrent
    ∷ itself form.ForGenerate ∷ []

-- a form without a row declares nothing
abbrev pub row_in : Form → List Row → Row
row_in f [] = record { form = f; names = names.Nowhere; mark = None; is_unit = false }
row_in f (r ∷ rs) = if same_form r.form f then r else row_in f rs

abbrev pub row_of : Form → Row
row_of f = row_in f all_rows
