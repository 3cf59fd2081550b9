-- Names that no declaration may have. (IEEE 1076, library clauses; scope and visibility)
use Rattle.std.specs.Prelude.{ℕ, Bool, false, ◌||◌, List, Option, Some, None, bytes_eq, codes, if◌then◌else◌}
use Rattle.vd_bytes.specs.declared.places.Place.{Place}
use Rattle.vd_bytes.specs.declared.answers.Refused.{Refused}
use Rattle.vd_trees.specs.declared.revision.Revision.{Revision}
use Rattle.vd_forest.specs.Forest.{Forest, nothing, more, skipped}
use Rattle.vd_forms.specs.declared.form.Form.{Form}
use Rattle.vd_forms.specs.declared.form.Form.TheVariants as form
use Rattle.vd_resolved.specs.declared.node.Resolved.{Resolved}
use Rattle.vd_structure_rules.specs.declared.around.Naming.{Naming}
use Rattle.vd_structure_rules.specs.declared.around.Naming.TheVariants as naming
use Rattle.vd_structure_rules.specs.Statements.{refused_if}
use Rattle.vd_structure_rules.specs.Functions.{is_2019}

abbrev pub is_support : List ℕ → Bool
is_support name = bytes_eq name (codes "vdown_support")

abbrev pub is_library : List ℕ → Bool
is_library name = bytes_eq name (codes "work") || (bytes_eq name (codes "std") || bytes_eq name (codes "ieee"))

-- an element of a record may have the name of a library
abbrev pub is_kept_free : Naming → List ℕ → Bool
is_kept_free naming.Declared name = is_support name || is_library name
is_kept_free naming.Element name = is_support name
is_kept_free _ name = false

-- ---- what the identifiers inside a node are

abbrev pub naming_of_list : Naming → Naming
naming_of_list naming.ListsDeclared = naming.Declared
naming_of_list naming.ListsElements = naming.Element
naming_of_list _ = naming.Used

abbrev pub naming_in : Form → Naming → Naming
naming_in form.IdentifierList around = naming_of_list around
naming_in form.EnumerationType around = naming.Declared
naming_in form.RecordElement around = naming.ListsElements
naming_in form.PortDeclaration around = naming.ListsDeclared
naming_in form.ViewPort around = naming.ListsDeclared
naming_in form.GenericConstant around = naming.ListsDeclared
naming_in form.ParameterDeclaration around = naming.ListsDeclared
naming_in form.ConstantDeclaration around = naming.ListsDeclared
naming_in form.SignalDeclaration around = naming.ListsDeclared
naming_in form.VariableDeclaration around = naming.ListsDeclared
naming_in _ around = naming.Used

-- the part in which a declaration, a statement with a label, a loop or a generate statement has the name that it declares
abbrev pub name_part : Form → Option ℕ
name_part form.EntityDeclaration = Some 0
name_part form.ArchitectureBody = Some 0
name_part form.PackageDeclaration = Some 0
name_part form.PackageInstantiation = Some 0
name_part form.ContextDeclaration = Some 0
name_part form.TypeDeclaration = Some 0
name_part form.SubtypeDeclaration = Some 0
name_part form.ViewDeclaration = Some 0
name_part form.GenericType = Some 0
name_part form.LabelledStatement = Some 0
name_part form.LabelledConcurrent = Some 0
name_part form.ForLoop = Some 0
name_part form.ForGenerate = Some 0
name_part form.FunctionDeclaration = Some 1
name_part form.FunctionBody = Some 1
name_part form.FunctionInstantiation = Some 1
name_part form.GenericFunction = Some 1
name_part _ = None

-- ---- 412, in revision 2019: a declared name that is kept free

abbrev pub kept_free_name : Naming → Form → List ℕ → Place → Option Refused
kept_free_name around form.Identifier text place = refused_if (is_kept_free around text) place 412
kept_free_name around _ text place = None

abbrev pub first_identifier : Forest Resolved → Option Refused
first_identifier nothing = None
first_identifier (more n text place parts next) = kept_free_name naming.Declared n.form text place

abbrev pub declared_name : Form → List ℕ → Place → Forest Resolved → Option Refused
declared_name form.SelectedName text place parts = first_identifier parts
declared_name f text place parts = kept_free_name naming.Declared f text place

-- the first tree declares a name. That of a context declaration is a selected name
abbrev pub declared_name_at : Forest Resolved → Option Refused
declared_name_at nothing = None
declared_name_at (more n text place parts next) = declared_name n.form text place parts

abbrev pub declared_name_in : Option ℕ → Forest Resolved → Option Refused
declared_name_in None parts = None
declared_name_in (Some n) parts = declared_name_at (skipped n parts)

abbrev pub only_2019 : Revision → Option Refused → Option Refused
only_2019 r refused = if is_2019 r then refused else None
