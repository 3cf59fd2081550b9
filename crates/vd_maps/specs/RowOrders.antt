-- Which rows a map has for a 2019 design, and in which order. (The format of the map.)
--
-- Rows go by unit in the order of analysis; in a unit ports, signals and implicit signals in the order in which the signals of a design are listed, then labels, then types, each in
-- the order of the text. A `label` row stands for each instance and each alternative of a generate; a `type` row for each type or subtype whose identifier changed, a generic type of
-- an instance included. Names inside generates are led by the generate labels with dots.
use Rattle.std.specs.Prelude.{ℕ, zero, suc, Bool, true, false, not, ◌&&◌, ◌||◌, List, [], ◌∷◌, ◌++◌, map, length, Option, Some, None, IsTrue, bytes_eq, if◌then◌else◌}
use Rattle.std.specs.List.{flat_map, list_any}
use Rattle.vd_trees.specs.declared.rows.Row.{Row}
use Rattle.vd_trees.specs.declared.rows.RowKind.{RowKind}
use Rattle.vd_trees.specs.declared.rows.RowKind.TheVariants.{Port, Signal, Implicit, TypeName}
use Rattle.vd_trees.specs.declared.rows.RowKind.TheVariants.{Label as LabelRow}
use Rattle.vd_trees.specs.Paths.{dotted}
use Rattle.vd_forest.specs.Forest.{Forest, nothing, more, text_of, parts_of, next_of, skipped}
use Rattle.vd_resolved.specs.declared.node.Resolved.{Resolved}
use Rattle.vd_resolved.specs.Trees.{ResolvedTree}
use Rattle.vd_meaning.specs.Instances.{implicit_name}
use Rattle.vd_first_names.specs.Joins.{architecture_unit}
use Rattle.vd_maps.specs.Units.{Sort, EntityUnit, ArchitectureUnit, PackageUnit, BodyUnit, InstanceUnit, ViewPort, SignalObjects, TypeText, SubtypeText, LabelledStatement, InstanceStatement, GenerateRegion, ViewModeText, GenericTypeText, FunctionInstance, sort, Node, units_in, nodes, all_nodes, is_present, Mark, no_mark, named, Object, objects_named, is_named}
use Rattle.vd_maps.specs.Marks.{name_of, texts_of, is_view_text, elements_of, port_mark, entity_ports, original}
use Rattle.vd_maps.specs.WholeMaps.{identifier_in}
use Rattle.vd_maps.specs.Interfaces.{is_text_of}

-- ---- what a row stands for: its kind, its unit and the 2019 name; an implicit signal or a type may have no row

pub record Head : Type 0 where
  pub kind : RowKind
  pub unit : List ℕ
  pub name : List ℕ
  pub may_miss : Bool

-- ---- ports: one row for a plain port, and one for each element of a view that has a mode, in the order of the record

-- the view that an element has in place of a mode
abbrev pub view_by : Sort → Forest Resolved → Option (Option ℕ)
view_by ViewModeText parts = Some (named parts).declaration
view_by _ parts = None

abbrev pub view_at : Forest Resolved → Option (Option ℕ)
view_at nothing = None
view_at (more n text place parts next) = view_by (sort n.form) parts

abbrev pub element_view : List ℕ → List Node → Option (Option ℕ)
element_view name [] = None
element_view name (x ∷ xs) = if list_any (is_named name) (objects_named no_mark (parts_of x.parts)) then view_at (next_of x.parts) else element_view name xs

abbrev pub view_elements : ResolvedTree → Option ℕ → List Node
view_elements tree view = flat_map (λ (x : Node). nodes (parts_of (skipped 2 x.parts))) (texts_of tree is_view_text view)

-- the ways to what has a mode: an element of the record, or what its view leads to
abbrev pub ways_by : (Option ℕ → Mark → List (List (List ℕ))) → Object → Option (Option ℕ) → List (List (List ℕ))
ways_by go o None = (o.name ∷ []) ∷ []
ways_by go o (Some view) = map (λ (fields : List (List ℕ)). o.name ∷ fields) (go view o.mark)

-- no view stands inside itself
abbrev pub view_ways : ℕ → ResolvedTree → Option ℕ → Mark → List (List (List ℕ))
view_ways zero tree view m = []
view_ways (suc n) tree view m =
    flat_map (λ (o : Object). ways_by (view_ways n tree) o (element_view o.name (view_elements tree view))) (elements_of tree m)

abbrev pub ways_of_port : ResolvedTree → Sort → Forest Resolved → List (List (List ℕ))
ways_of_port tree ViewPort parts = view_ways (suc (length tree.declarations)) tree (named (skipped 2 parts)).declaration (port_mark tree ViewPort parts)
ways_of_port tree _ parts = [] ∷ []

abbrev pub port_head : List ℕ → Object → List (List ℕ) → Head
port_head unit o fields = record { kind = Port; unit = unit; name = dotted (o.name ∷ fields); may_miss = false }

abbrev pub port_heads : ResolvedTree → List ℕ → List Node → List Head
port_heads tree unit [] = []
port_heads tree unit (x ∷ xs) =
    flat_map (λ (o : Object). map (port_head unit o) (ways_of_port tree x.sort x.parts)) (objects_named no_mark (parts_of (next_of x.parts)))
    ++ port_heads tree unit xs

-- ---- a walk through an architecture: at each node with the labels of the generates round it, and the label of its statement

abbrev pub labels_inside : Sort → List (List ℕ) → List ℕ → List (List ℕ)
labels_inside GenerateRegion outer own = outer ++ own ∷ []
labels_inside _ outer own = outer

abbrev pub label_inside : Sort → List ℕ → Forest Resolved → List ℕ
label_inside LabelledStatement own parts = text_of parts
label_inside _ own parts = own

abbrev pub walk : (List (List ℕ) → List ℕ → Sort → Forest Resolved → List Head) → List (List ℕ) → List ℕ → Forest Resolved → List Head
walk here outer own nothing = []
walk here outer own (more n text place parts next) =
    here outer own (sort n.form) parts
    ++ (walk here (labels_inside (sort n.form) outer own) (label_inside (sort n.form) own parts) parts ++ walk here outer own next)

abbrev pub head_inside : RowKind → Bool → List ℕ → List (List ℕ) → List ℕ → Head
head_inside kind may_miss unit outer name = record { kind = kind; unit = unit; name = dotted (outer ++ name ∷ []); may_miss = may_miss }

-- the signals of a declaration; in front of an instance those that may stand for its actuals
abbrev pub signal_heads : ResolvedTree → List ℕ → List (List ℕ) → List ℕ → Sort → Forest Resolved → List Head
signal_heads tree unit outer own SignalObjects parts = map (λ (o : Object). head_inside Signal false unit outer o.name) (objects_named no_mark (parts_of parts))
signal_heads tree unit outer own InstanceStatement parts =
    map (λ (o : Object). head_inside Implicit true unit outer (implicit_name own o.name)) (entity_ports tree (named parts).text)
signal_heads tree unit outer own _ parts = []

-- an instance; a body of a generate, of which there is one for each alternative
abbrev pub label_heads : List ℕ → List (List ℕ) → List ℕ → Sort → Forest Resolved → List Head
label_heads unit outer own InstanceStatement parts = head_inside LabelRow false unit outer own ∷ []
label_heads unit outer own GenerateRegion parts = head_inside LabelRow false unit outer own ∷ []
label_heads unit outer own _ parts = []

-- ---- types and subtypes. An instance of a function or of a package has those of what it is an instance of, generic types too

abbrev pub is_type_sort : Sort → Bool
is_type_sort TypeText = true
is_type_sort SubtypeText = true
is_type_sort GenericTypeText = true
is_type_sort _ = false

abbrev pub type_names : List Node → List (List ℕ)
type_names [] = []
type_names (x ∷ xs) = if is_type_sort x.sort then name_of x ∷ type_names xs else type_names xs

abbrev pub function_texts : ℕ → List Node → List Node
function_texts d [] = []
function_texts d (x ∷ xs) = if is_text_of d x.sort x then x ∷ function_texts d xs else function_texts d xs

abbrev pub types_of_function : ResolvedTree → Option ℕ → List (List ℕ)
types_of_function tree None = []
types_of_function tree (Some d) = type_names (flat_map (λ (x : Node). all_nodes x.parts) (function_texts (original tree d) (all_nodes tree.units)))

abbrev pub type_heads : ResolvedTree → List ℕ → List (List ℕ) → List ℕ → Sort → Forest Resolved → List Head
type_heads tree unit outer own TypeText parts = head_inside TypeName true unit outer (text_of parts) ∷ []
type_heads tree unit outer own SubtypeText parts = head_inside TypeName true unit outer (text_of parts) ∷ []
type_heads tree unit outer own FunctionInstance parts = map (head_inside TypeName true unit outer) (types_of_function tree (named (skipped 2 parts)).declaration)
type_heads tree unit outer own _ parts = []

-- ---- units

abbrev pub unit_of_architecture : Node → List ℕ
unit_of_architecture x = architecture_unit (record { labels = []; entity = text_of (next_of x.parts); architecture = name_of x })

abbrev pub architecture_heads : ResolvedTree → List ℕ → Forest Resolved → List Head
architecture_heads tree unit parts =
    walk (signal_heads tree unit) [] [] parts ++ (walk (label_heads unit) [] [] parts ++ walk (type_heads tree unit) [] [] parts)

-- a package has its name, then its generics
abbrev pub is_generic : List ℕ → Sort → Forest Resolved → Bool
is_generic name PackageUnit parts = bytes_eq (text_of parts) name && is_present (next_of parts)
is_generic name _ parts = false

abbrev pub has_generics : ResolvedTree → List ℕ → Bool
has_generics tree name = list_any (λ (x : Node). is_generic name x.sort x.parts) (units_in tree.units)

-- what an instance has of a package with generics: of its declaration the generic types and the others, and those of its body
abbrev pub instance_heads_by : ResolvedTree → List ℕ → List ℕ → Sort → Node → List Head
instance_heads_by tree unit name PackageUnit x =
    if bytes_eq (name_of x) name then map (head_inside TypeName true unit []) (type_names (nodes (parts_of (next_of x.parts)))) ++ walk (type_heads tree unit) [] [] x.parts else []
instance_heads_by tree unit name BodyUnit x = if bytes_eq (name_of x) name then walk (type_heads tree unit) [] [] x.parts else []
instance_heads_by tree unit name _ x = []

abbrev pub instance_heads : ResolvedTree → List ℕ → List ℕ → List Head
instance_heads tree unit name = flat_map (λ (x : Node). instance_heads_by tree unit name x.sort x) (units_in tree.units)

abbrev pub unit_heads : ResolvedTree → Sort → Node → List Head
unit_heads tree EntityUnit x = port_heads tree (name_of x) (nodes (parts_of (skipped 2 x.parts)))
unit_heads tree ArchitectureUnit x = architecture_heads tree (unit_of_architecture x) x.parts
unit_heads tree PackageUnit x = if has_generics tree (name_of x) then [] else walk (type_heads tree (name_of x)) [] [] x.parts
unit_heads tree BodyUnit x = if has_generics tree (name_of x) then [] else walk (type_heads tree (name_of x)) [] [] x.parts
unit_heads tree InstanceUnit x = instance_heads tree (name_of x) (named (next_of x.parts)).text
unit_heads tree _ x = []

abbrev pub heads : ResolvedTree → List Head
heads tree = flat_map (λ (x : Node). unit_heads tree x.sort x) (units_in tree.units)

-- ---- the rows

abbrev pub same_row_kind : RowKind → RowKind → Bool
same_row_kind Port Port = true
same_row_kind Signal Signal = true
same_row_kind Implicit Implicit = true
same_row_kind LabelRow LabelRow = true
same_row_kind TypeName TypeName = true
same_row_kind _ _ = false

abbrev pub is_empty : List ℕ → Bool
is_empty [] = true
is_empty (c ∷ cs) = false

-- labels and types have no mark, only ports have a mode, and the identifier of a type in its row has changed
abbrev pub has_form : RowKind → Row → Bool
has_form Port row = not (is_empty row.mode) && not (is_empty row.mark)
has_form Signal row = is_empty row.mode && not (is_empty row.mark)
has_form Implicit row = is_empty row.mode && not (is_empty row.mark)
has_form LabelRow row = is_empty row.mode && is_empty row.mark
has_form TypeName row = is_empty row.mode && (is_empty row.mark && not (bytes_eq (identifier_in row.name19) (identifier_in row.name93)))

abbrev pub is_row_for : Head → Row → Bool
is_row_for h row = same_row_kind h.kind row.kind && (bytes_eq h.unit row.unit && (bytes_eq h.name row.name19 && has_form row.kind row))

-- each row stands for the next of these, but for those that may have none
abbrev pub rows_stand_for : List Head → List Row → Bool
rows_stand_for [] [] = true
rows_stand_for [] (r ∷ rs) = false
rows_stand_for (h ∷ hs) [] = h.may_miss && rows_stand_for hs []
rows_stand_for (h ∷ hs) (r ∷ rs) = (is_row_for h r && rows_stand_for hs rs) || (h.may_miss && rows_stand_for hs (r ∷ rs))

pub record HasItsRows (rows : List Row) (tree19 : ResolvedTree) : Type 0 where
  pub stand : IsTrue (rows_stand_for (heads tree19) rows)
