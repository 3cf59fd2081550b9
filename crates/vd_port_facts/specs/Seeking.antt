-- Where the facts stand in the trees of a design: which trees side by side are looked at, what they answer, and which of their parts are
-- looked at.
use Rattle.std.specs.Prelude.{Bool, List, None, Option, Some, [], false, if◌then◌else◌, true, ℕ}
use Rattle.vd_walks.specs.Finding.{Finder}
use Rattle.vd_forest.specs.Forest.{Forest, skipped}
use Rattle.vd_forms.specs.declared.form.Form.{Form}
use Rattle.vd_function_names.specs.Counting.{behind, counts}
use Rattle.vd_function_names.specs.declared.counting.Counted.{Counted}
use Rattle.vd_walks.specs.Gathering.{all_found}
use Rattle.vd_meaning.specs.Tables.{Table}
use Rattle.vd_port_facts.specs.Reading.{name_first, named_first, numbers_first}
use Rattle.vd_port_facts.specs.declared.entities.ListedEntity.{ListedEntity}
use Rattle.vd_port_facts.specs.declared.generics.ListedGenerics.{ListedGenerics}
use Rattle.vd_port_facts.specs.declared.ports.ListedPorts.{ListedPorts}
use Rattle.vd_port_facts.specs.declared.ports.PortTrees.{PortTrees}
use Rattle.vd_port_facts.specs.declared.ports.PortTrees.TheVariants.{FirstList, Lists, NoLists, SecondList, ThirdList, Units}
use Rattle.vd_port_lists.specs.FirstTrees.{present_first}
use Rattle.vd_resolved.specs.declared.node.Resolved.{Resolved}
use Rattle.vd_forms.specs.declared.form.Form.TheVariants as form
use Rattle.vd_function_names.specs.declared.counting.Counted.TheVariants as trees

abbrev pub seeker : {A : Type 0} → (Resolved → Forest Resolved → Option A) → (Form → Counted) → Finder Resolved Counted A
seeker answer inner =
    record {
      answer = λ c n text place parts. if counts c then answer n parts else None;
      down = λ c n text place parts. if counts c then inner n.form else trees.NoTrees;
      along = λ c n text place parts. behind c;
    }

-- ---- names: an identifier names what it stands for, and all else what its parts name

abbrev pub named_by : Form → Option ℕ → Option ℕ
named_by form.Identifier number = number
named_by _ number = None

abbrev pub inside_names : Form → Counted
inside_names form.Identifier = trees.NoTrees
inside_names _ = trees.Each

abbrev pub name_seeker : Finder Resolved Counted ℕ
name_seeker = seeker (λ n parts. named_by n.form n.declaration) inside_names

-- ---- what declares objects, and which of its parts has their names

abbrev pub names_part : Form → Option ℕ
names_part form.SignalDeclaration = Some 0
names_part form.PortDeclaration = Some 1
names_part form.GenericConstant = Some 1
names_part _ = None

abbrev pub objects_by : Option ℕ → Table → Forest Resolved → Option (List ℕ)
objects_by None t parts = None
objects_by (Some k) t parts = Some (numbers_first t (skipped k parts))

abbrev pub inside_objects : Form → Counted
inside_objects form.GenericClause = trees.Each
inside_objects form.PortClause = trees.Each
inside_objects form.ParameterList = trees.Each
inside_objects form.DeclarativePart = trees.Each
inside_objects form.Association = trees.SecondAlone
inside_objects form.OthersAssociation = trees.FirstAlone
inside_objects form.UnconstrainedIndex = trees.FirstAlone
inside_objects _ = trees.NoTrees

abbrev pub object_seeker : Table → Finder Resolved Counted (List ℕ)
object_seeker t = seeker (λ n parts. objects_by (names_part n.form) t parts) inside_objects

-- ---- the defaults of generics, by what they name

abbrev pub default_by : Form → Table → Forest Resolved → Option (List ℕ)
default_by form.GenericConstant t parts = Some (named_first t (skipped 4 parts))
default_by _ t parts = None

abbrev pub inside_defaults : Form → Counted
inside_defaults form.GenericConstant = trees.NoTrees
inside_defaults _ = trees.Each

abbrev pub default_seeker : Table → Finder Resolved Counted (List ℕ)
default_seeker t = seeker (λ n parts. default_by n.form t parts) inside_defaults

-- the generics in the first of some trees
abbrev pub generics_at : Table → Forest Resolved → ListedGenerics
generics_at t f = record { objects = all_found (object_seeker t) trees.FirstAlone f; defaults = all_found (default_seeker t) trees.FirstAlone f }

-- ---- entities, with their generics, which stand in their second parts

abbrev pub entity_of : Table → Forest Resolved → ListedEntity
entity_of t parts = record { name = name_first t parts; generics = generics_at t (skipped 1 parts) }

abbrev pub entity_by : Form → Table → Forest Resolved → Option ListedEntity
entity_by form.EntityDeclaration t parts = Some (entity_of t parts)
entity_by _ t parts = None

-- no entity stands inside a unit
abbrev pub inside_unit : Form → Counted
inside_unit form.EntityDeclaration = trees.NoTrees
inside_unit form.ArchitectureBody = trees.NoTrees
inside_unit form.PackageDeclaration = trees.NoTrees
inside_unit form.PackageBody = trees.NoTrees
inside_unit form.PackageInstantiation = trees.NoTrees
inside_unit _ = trees.Each

abbrev pub entity_seeker : Table → Finder Resolved Counted ListedEntity
entity_seeker t = seeker (λ n parts. entity_by n.form t parts) inside_unit

-- ---- ports, which stand in the third parts of entities

abbrev pub are_lists : PortTrees → Bool
are_lists FirstList = true
are_lists Lists = true
are_lists _ = false

abbrev pub lists_behind : PortTrees → PortTrees
lists_behind Units = Units
lists_behind ThirdList = SecondList
lists_behind SecondList = FirstList
lists_behind FirstList = NoLists
lists_behind Lists = Lists
lists_behind NoLists = NoLists

abbrev pub lists_in_unit : Form → PortTrees
lists_in_unit form.EntityDeclaration = ThirdList
lists_in_unit form.ArchitectureBody = NoLists
lists_in_unit form.PackageDeclaration = NoLists
lists_in_unit form.PackageBody = NoLists
lists_in_unit form.PackageInstantiation = NoLists
lists_in_unit _ = Units

abbrev pub lists_in_list : Form → PortTrees
lists_in_list form.PortDeclaration = NoLists
lists_in_list form.ViewPort = NoLists
lists_in_list _ = Lists

abbrev pub lists_inside : PortTrees → Form → PortTrees
lists_inside Units f = lists_in_unit f
lists_inside FirstList f = lists_in_list f
lists_inside Lists f = lists_in_list f
lists_inside _ f = NoLists

-- ports with the names in the second of some parts, whose subtype is another of them
abbrev pub ports_at : Table → Bool → ℕ → Forest Resolved → ListedPorts
ports_at t has_default subtype parts =
    record { numbers = numbers_first t (skipped 1 parts); has_default = has_default; named = named_first t (skipped subtype parts) }

-- a port with a view has no default
abbrev pub ports_by : Form → Table → Forest Resolved → Option ListedPorts
ports_by form.PortDeclaration t parts = Some (ports_at t (present_first t (skipped 4 parts)) 3 parts)
ports_by form.ViewPort t parts = Some (ports_at t false 4 parts)
ports_by _ t parts = None

abbrev pub port_seeker : Table → Finder Resolved PortTrees ListedPorts
port_seeker t =
    record {
      answer = λ s n text place parts. if are_lists s then ports_by n.form t parts else None;
      down = λ s n text place parts. lists_inside s n.form;
      along = λ s n text place parts. lists_behind s;
    }
