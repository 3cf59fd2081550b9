-- The design units of a resolved tree, and what is declared in them: names with their declarations, subtypes and their marks. (IEEE 1076, design units; interface
-- declarations; subtype indications.)
use Rattle.std.specs.Prelude.{ℕ, Bool, true, false, ◌==◌, List, [], ◌∷◌, ◌++◌, Option, Some, None, bytes_eq, if◌then◌else◌}
use Rattle.vd_forest.specs.Forest.{Forest, nothing, more, parts_of}
use Rattle.vd_forms.specs.declared.form.Form.{Form}
use Rattle.vd_forms.specs.declared.form.Form.TheVariants as form
use Rattle.vd_resolved.specs.declared.node.Resolved.{Resolved}
use Rattle.vd_meaning.specs.Brackets.{or_else}

-- ---- units

-- A unit, a declaration or a statement by what it is; all else is another thing.
pub data Sort : Type 0 where
  EntityUnit : Sort
  ArchitectureUnit : Sort
  PackageUnit : Sort
  BodyUnit : Sort
  InstanceUnit : Sort
  ContextUnit : Sort
  PlainPort : Sort
  ViewPort : Sort
  SignalObjects : Sort
  ConstantObjects : Sort
  TypeText : Sort
  SubtypeText : Sort
  ViewText : Sort
  FunctionText : Sort
  FunctionInstance : Sort
  LabelledStatement : Sort
  InstanceStatement : Sort
  GenerateRegion : Sort
  RecordText : Sort
  ViewModeText : Sort
  GenericTypeText : Sort
  Absent : Sort
  Other : Sort

abbrev pub sort : Form → Sort
sort form.EntityDeclaration = EntityUnit
sort form.ArchitectureBody = ArchitectureUnit
sort form.PackageDeclaration = PackageUnit
sort form.PackageBody = BodyUnit
sort form.PackageInstantiation = InstanceUnit
sort form.ContextDeclaration = ContextUnit
sort form.PortDeclaration = PlainPort
sort form.ViewPort = ViewPort
sort form.SignalDeclaration = SignalObjects
sort form.ConstantDeclaration = ConstantObjects
sort form.TypeDeclaration = TypeText
sort form.SubtypeDeclaration = SubtypeText
sort form.ViewDeclaration = ViewText
sort form.FunctionDeclaration = FunctionText
sort form.FunctionBody = FunctionText
sort form.FunctionInstantiation = FunctionInstance
sort form.LabelledConcurrent = LabelledStatement
sort form.EntityInstantiation = InstanceStatement
sort form.GenerateBody = GenerateRegion
sort form.RecordType = RecordText
sort form.ViewMode = ViewModeText
sort form.GenericType = GenericTypeText
sort form.Absent = Absent
sort _ = Other

abbrev pub is_unit : Sort → Bool
is_unit EntityUnit = true
is_unit ArchitectureUnit = true
is_unit PackageUnit = true
is_unit BodyUnit = true
is_unit InstanceUnit = true
is_unit ContextUnit = true
is_unit _ = false

-- a tree: what stands at its node, and its parts
pub record Node : Type 0 where
  pub sort : Sort
  pub declaration : Option ℕ
  pub parts : Forest Resolved

abbrev pub node : Resolved → Forest Resolved → Node
node n parts = record { sort = sort n.form; declaration = n.declaration; parts = parts }

-- The library units of some design units, in the order of analysis. A unit stands in its design unit, perhaps behind references to contexts.
abbrev pub units_in : Forest Resolved → List Node
units_in nothing = []
units_in (more n text place parts next) = (if is_unit (sort n.form) then node n parts ∷ [] else units_in parts) ++ units_in next

-- the trees of a forest, one beside the other
abbrev pub nodes : Forest Resolved → List Node
nodes nothing = []
nodes (more n text place parts next) = node n parts ∷ nodes next

-- what stands somewhere in a forest, at any depth
abbrev pub all_nodes : Forest Resolved → List Node
all_nodes nothing = []
all_nodes (more n text place parts next) = node n parts ∷ (all_nodes parts ++ all_nodes next)

-- ---- names

-- the declaration at the first tree
abbrev pub declaration_of : Forest Resolved → Option ℕ
declaration_of nothing = None
declaration_of (more n text place parts next) = n.declaration

-- what is declared: at the node of its declaration, or at its identifier, which is the first part
abbrev pub declared_at : Node → Option ℕ
declared_at x = or_else x.declaration (declaration_of x.parts)

abbrev pub is_number : ℕ → Option ℕ → Bool
is_number d None = false
is_number d (Some e) = e == d

abbrev pub present : Sort → Bool
present Absent = false
present _ = true

abbrev pub is_present : Forest Resolved → Bool
is_present nothing = false
is_present (more n text place parts next) = present (sort n.form)

-- the last of some identifiers, its text and the declaration that it names
pub record Mark : Type 0 where
  pub text : List ℕ
  pub declaration : Option ℕ

abbrev pub no_mark : Mark
no_mark = record { text = []; declaration = None }

abbrev pub last_identifier : Mark → Forest Resolved → Mark
last_identifier found nothing = found
last_identifier found (more n text place parts next) = last_identifier (record { text = text; declaration = n.declaration }) next

-- A selected name: its last identifier. The declaration that it names stands at it or at that identifier
abbrev pub named : Forest Resolved → Mark
named f = let last = last_identifier no_mark (parts_of f) in record last { declaration = or_else (declaration_of f) last.declaration }

-- the mark of a subtype indication
abbrev pub mark_in : Forest Resolved → Mark
mark_in indication = named (parts_of indication)

-- ---- objects

-- an object, a record element, a generic or a parameter: its name, its number, and the mark of its subtype
pub record Object : Type 0 where
  pub name : List ℕ
  pub number : Option ℕ
  pub mark : Mark

-- one for each of the identifiers of a list
abbrev pub objects_named : Mark → Forest Resolved → List Object
objects_named mark nothing = []
objects_named mark (more n text place parts next) = record { name = text; number = n.declaration; mark = mark } ∷ objects_named mark next

abbrev pub is_named : List ℕ → Object → Bool
is_named name o = bytes_eq o.name name

-- those of this name
abbrev pub objects_of_name : List ℕ → List Object → List Object
objects_of_name name [] = []
objects_of_name name (o ∷ os) = if is_named name o then o ∷ objects_of_name name os else objects_of_name name os
