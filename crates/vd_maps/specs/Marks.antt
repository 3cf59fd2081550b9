-- The mark of the declaration of a scalar signal: the last identifier of the type mark in its subtype indication; of an element of a view that of the record's element.
-- (IEEE 1076, signal declarations; interface declarations; subtype indications; record types.)
use Rattle.std.specs.Prelude.{ℕ, Bool, true, false, ◌==◌, ◌&&◌, List, [], ◌∷◌, ◌++◌, map, Option, Some, None, bytes_eq, slice_index_or, if◌then◌else◌}
use Rattle.std.specs.List.{flat_map}
use Rattle.vd_trees.specs.declared.paths.PathStep.{PathStep}
use Rattle.vd_trees.specs.declared.paths.PathStep.TheVariants.{Field}
use Rattle.vd_trees.specs.declared.paths.Level.{Level}
use Rattle.vd_trees.specs.Paths.{dotted}
use Rattle.vd_declarations.specs.declared.declarations.Declaration.{Declaration}
use Rattle.vd_declarations.specs.Classes.{is_type}
use Rattle.vd_forest.specs.Forest.{Forest, nothing, more, text_of, parts_of, next_of, skipped}
use Rattle.vd_resolved.specs.declared.node.Resolved.{Resolved}
use Rattle.vd_resolved.specs.Trees.{ResolvedTree}
use Rattle.vd_meaning.specs.Tables.{no_declaration}
use Rattle.vd_meaning.specs.Names.{number_or}
use Rattle.vd_meaning.specs.Brackets.{or_else}
use Rattle.vd_meaning.specs.Building.{Mode, ScalarObject}
use Rattle.vd_meaning.specs.Instances.{implicit_name}
use Rattle.vd_first_names.specs.Joins.{label_names}
use Rattle.vd_joins.specs.Joins.{last_level}
use Rattle.vd_maps.specs.Units.{Sort, EntityUnit, ArchitectureUnit, InstanceUnit, PlainPort, ViewPort, SignalObjects, TypeText, ViewText, LabelledStatement, InstanceStatement, GenerateRegion, RecordText, sort, Node, units_in, nodes, all_nodes, declared_at, is_number, is_present, Mark, no_mark, named, mark_in, Object, objects_named, objects_of_name}

-- ---- units by their names

abbrev pub name_of : Node → List ℕ
name_of x = text_of x.parts

abbrev pub is_entity : List ℕ → Sort → List ℕ → Bool
is_entity name EntityUnit own = bytes_eq own name
is_entity name _ own = false

abbrev pub entities_in : List ℕ → List Node → List Node
entities_in name [] = []
entities_in name (x ∷ xs) = if is_entity name x.sort (name_of x) then x ∷ entities_in name xs else entities_in name xs

-- an architecture's first name is its own, and the second one that of its entity
abbrev pub is_architecture : Level → Sort → Forest Resolved → Bool
is_architecture level ArchitectureUnit parts = bytes_eq (text_of parts) level.architecture && bytes_eq (text_of (next_of parts)) level.entity
is_architecture level _ parts = false

abbrev pub architectures_in : Level → List Node → List Node
architectures_in level [] = []
architectures_in level (x ∷ xs) =
    if is_architecture level x.sort x.parts then x ∷ architectures_in level xs else architectures_in level xs

-- ---- instances of packages: what an instance declares are copies of what its package with generics declares, in the same order

-- the generics of an instance, or of a package with generics, and what it declares besides
abbrev pub own_numbers : List Declaration → Option ℕ → List ℕ
own_numbers ds None = []
own_numbers ds (Some d) = let x = slice_index_or ds d no_declaration in x.generics ++ x.parameters

-- what stands in the second list where a number stands in the first
abbrev pub at_same_place : ℕ → List ℕ → List ℕ → Option ℕ
at_same_place d (x ∷ xs) (y ∷ ys) = if x == d then Some y else at_same_place d xs ys
at_same_place d _ _ = None

-- an instance has its name and then that of its package
abbrev pub original_in : List Declaration → ℕ → Sort → Node → Option ℕ
original_in ds d InstanceUnit x = at_same_place d (own_numbers ds (declared_at x)) (own_numbers ds (named (next_of x.parts)).declaration)
original_in ds d _ x = None

abbrev pub found_original : List Declaration → ℕ → List Node → Option ℕ
found_original ds d [] = None
found_original ds d (x ∷ xs) = or_else (original_in ds d x.sort x) (found_original ds d xs)

-- what a declaration is a copy of; of a declaration that is none, itself
abbrev pub original : ResolvedTree → ℕ → ℕ
original tree d = number_or (or_else (found_original tree.declarations d (units_in tree.units)) (Some d))

-- ---- types and views by their numbers

-- the type that a mark names, or of which it names a subtype
abbrev pub type_number : List Declaration → ℕ → ℕ
type_number ds d = let x = slice_index_or ds d no_declaration in if is_type x.class then d else number_or (or_else x.mark (Some d))

abbrev pub declaring : (Sort → Bool) → ℕ → List Node → List Node
declaring is d [] = []
declaring is d (x ∷ xs) = if is x.sort && is_number d (declared_at x) then x ∷ declaring is d xs else declaring is d xs

-- the texts of a declaration, or of what it is a copy of
abbrev pub texts_of : ResolvedTree → (Sort → Bool) → Option ℕ → List Node
texts_of tree is None = []
texts_of tree is (Some d) = declaring is (original tree d) (all_nodes tree.units)

abbrev pub is_type_text : Sort → Bool
is_type_text TypeText = true
is_type_text _ = false

abbrev pub is_view_text : Sort → Bool
is_view_text ViewText = true
is_view_text _ = false

-- a view has its name, and then the mark of its record
abbrev pub first_mark : List Node → Mark
first_mark [] = no_mark
first_mark (x ∷ xs) = named (next_of x.parts)

-- ---- elements of records

abbrev pub elements_in : Forest Resolved → List Object
elements_in nothing = []
elements_in (more n text place parts next) = objects_named (mark_in (next_of parts)) (parts_of parts) ++ elements_in next

abbrev pub elements_by : Sort → Forest Resolved → List Object
elements_by RecordText parts = elements_in (parts_of parts)
elements_by _ parts = []

-- what a type declaration has behind its name
abbrev pub elements_at : Forest Resolved → List Object
elements_at nothing = []
elements_at (more n text place parts next) = elements_by (sort n.form) parts

abbrev pub type_of_mark : ResolvedTree → Mark → Option ℕ
type_of_mark tree m = Rattle.std.specs.Option.option_map (type_number tree.declarations) m.declaration

abbrev pub elements_of : ResolvedTree → Mark → List Object
elements_of tree m = flat_map (λ (x : Node). elements_at (next_of x.parts)) (texts_of tree is_type_text (type_of_mark tree m))

-- the mark of a field of what has this mark, of a field of that, and so on
abbrev pub field_marks : ResolvedTree → List (List ℕ) → Mark → List Mark
field_marks tree [] m = m ∷ []
field_marks tree (f ∷ fs) m = flat_map (λ (o : Object). field_marks tree fs o.mark) (objects_of_name f (elements_of tree m))

-- ---- ports

-- A port with a view may leave out its subtype, which is then that of the view
abbrev pub port_mark : ResolvedTree → Sort → Forest Resolved → Mark
port_mark tree PlainPort parts = mark_in (skipped 3 parts)
port_mark tree ViewPort parts =
    if is_present (skipped 4 parts) then mark_in (skipped 4 parts) else first_mark (texts_of tree is_view_text (named (skipped 2 parts)).declaration)
port_mark tree _ parts = no_mark

abbrev pub port_objects : ResolvedTree → List Node → List Object
port_objects tree [] = []
port_objects tree (x ∷ xs) = objects_named (port_mark tree x.sort x.parts) (parts_of (next_of x.parts)) ++ port_objects tree xs

-- the ports of an entity, of which this is the text
abbrev pub ports_at : ResolvedTree → Node → List Object
ports_at tree x = port_objects tree (nodes (parts_of (skipped 2 x.parts)))

abbrev pub entity_ports : ResolvedTree → List ℕ → List Object
entity_ports tree name = flat_map (ports_at tree) (entities_in name (units_in tree.units))

-- ---- regions: that of an architecture, and those of generates inside it

pub record Region : Type 0 where
  pub declarations : Forest Resolved
  pub statements : Forest Resolved

abbrev pub architecture_region : Node → Region
architecture_region x = record { declarations = parts_of (skipped 2 x.parts); statements = parts_of (skipped 3 x.parts) }

abbrev pub generate_region : Forest Resolved → Region
generate_region body = record { declarations = parts_of body; statements = next_of body }

abbrev pub is_region : Sort → Bool
is_region GenerateRegion = true
is_region _ = false

-- the bodies of a generate statement, one for each alternative. Those of statements inside them are none of it
abbrev pub bodies_in : Forest Resolved → List (Forest Resolved)
bodies_in nothing = []
bodies_in (more n text place parts next) = (if is_region (sort n.form) then parts ∷ [] else bodies_in parts) ++ bodies_in next

abbrev pub if_labelled : List ℕ → Sort → Forest Resolved → List (Forest Resolved)
if_labelled label LabelledStatement parts = if bytes_eq (text_of parts) label then next_of parts ∷ [] else []
if_labelled label _ parts = []

-- the statements that have this label
abbrev pub labelled : List ℕ → Forest Resolved → List (Forest Resolved)
labelled label nothing = []
labelled label (more n text place parts next) = if_labelled label (sort n.form) parts ++ labelled label next

-- the regions inside generates of these labels
abbrev pub regions_inside : List (List ℕ) → Region → List Region
regions_inside [] r = r ∷ []
regions_inside (label ∷ labels) r = flat_map (regions_inside labels) (map generate_region (flat_map bodies_in (labelled label r.statements)))

-- ---- signals of a region

abbrev pub signals_by : Sort → Forest Resolved → List Object
signals_by SignalObjects parts = objects_named (mark_in (next_of parts)) (parts_of parts)
signals_by _ parts = []

abbrev pub signals_in : Forest Resolved → List Object
signals_in nothing = []
signals_in (more n text place parts next) = signals_by (sort n.form) parts ++ signals_in next

-- the signal that would stand for the actual of a port has the mark of the port
abbrev pub implicit_by : ResolvedTree → List ℕ → Sort → Forest Resolved → List Object
implicit_by tree label InstanceStatement parts = map (λ (o : Object). record o { name = implicit_name label o.name }) (entity_ports tree (named parts).text)
implicit_by tree label _ parts = []

abbrev pub implicit_at : ResolvedTree → List ℕ → Forest Resolved → List Object
implicit_at tree label nothing = []
implicit_at tree label (more n text place parts next) = implicit_by tree label (sort n.form) parts

abbrev pub if_instance : ResolvedTree → Sort → Forest Resolved → List Object
if_instance tree LabelledStatement parts = implicit_at tree (text_of parts) (next_of parts)
if_instance tree _ parts = []

abbrev pub implicit_in : ResolvedTree → Forest Resolved → List Object
implicit_in tree nothing = []
implicit_in tree (more n text place parts next) = if_instance tree (sort n.form) parts ++ implicit_in tree next

abbrev pub region_objects : ResolvedTree → Region → List Object
region_objects tree r = signals_in r.declarations ++ implicit_in tree r.statements

-- ---- where a scalar signal is declared: a port in its entity, any other signal in its architecture, inside the generates round it

abbrev pub objects_at : ResolvedTree → Option Mode → Option Level → List (List ℕ) → List Object
objects_at tree mode None labels = []
objects_at tree (Some mode) (Some level) labels = entity_ports tree level.entity
objects_at tree None (Some level) labels =
    flat_map (region_objects tree) (flat_map (regions_inside labels) (map architecture_region (architectures_in level (units_in tree.units))))

-- Its mark; where a row names fields of it too, that of the last of them. Alternatives of a generate that have one label may each declare the object.
abbrev pub marks_of : ResolvedTree → ScalarObject → List (List ℕ) → List Mark
marks_of tree x fields =
    flat_map (λ (o : Object). field_marks tree fields o.mark)
    (objects_of_name x.path.object (objects_at tree x.mode (last_level x.path.levels) (label_names x.path.generates)))

-- the fields that a name takes of some steps, behind the names in front
abbrev pub taken_by : List ℕ → List (List ℕ) → List PathStep → List (List ℕ)
taken_by name front (Field f ∷ steps) = if bytes_eq name (dotted front) then [] else f ∷ taken_by name (front ++ f ∷ []) steps
taken_by name front _ = []
