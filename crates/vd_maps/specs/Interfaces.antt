-- What a design shows to those that use it, and when a 1993 text keeps what a 2019 text shows: its units, the generics and plain ports of its entities, and what its packages
-- declare. (IEEE 1076, design units; interface declarations; package declarations; package instantiations.)
use Rattle.std.specs.Prelude.{ℕ, Bool, true, false, ◌&&◌, ◌||◌, List, [], ◌∷◌, ◌++◌, map, Option, Some, None, IsTrue, bytes_eq, codes, if◌then◌else◌}
use Rattle.std.specs.List.{flat_map}
use Rattle.vd_trees.specs.declared.rows.Row.{Row}
use Rattle.vd_forest.specs.Forest.{Forest, nothing, more, text_of, parts_of, next_of, skipped}
use Rattle.vd_forms.specs.declared.form.Form.{Form}
use Rattle.vd_forms.specs.declared.form.Form.TheVariants as form
use Rattle.vd_resolved.specs.declared.node.Resolved.{Resolved}
use Rattle.vd_resolved.specs.Trees.{ResolvedTree}
use Rattle.vd_meaning.specs.Brackets.{or_else}
use Rattle.vd_maps.specs.Units.{Sort, EntityUnit, ArchitectureUnit, PackageUnit, InstanceUnit, PlainPort, ConstantObjects, TypeText, SubtypeText, FunctionText, FunctionInstance, Node, units_in, nodes, all_nodes, declaration_of, declared_at, is_number, is_present, named, mark_in, Object, objects_named}
use Rattle.vd_maps.specs.Marks.{name_of, own_numbers, at_same_place, original}
use Rattle.vd_maps.specs.Tops.{generics_at}
use Rattle.vd_maps.specs.WholeMaps.{keeps_mark}

-- ---- what is shown

-- a generic or a port: its name, its mode and its mark
pub record Interface : Type 0 where
  pub name : List ℕ
  pub mode : List ℕ
  pub mark : List ℕ

-- what a package declares for others
pub data Kind : Type 0 where
  Type' : Kind
  Subtype' : Kind
  Constant' : Kind
  Function' : Kind

-- its name, its declaration, and the marks of a constant, a subtype, or a function's parameters and result
pub record Item : Type 0 where
  pub kind : Kind
  pub name : List ℕ
  pub number : Option ℕ
  pub marks : List (List ℕ)

pub data UnitInterface : Type 0 where
  OfEntity : (name : List ℕ) (generics ports : List Interface) → UnitInterface
  OfArchitecture : (name entity : List ℕ) → UnitInterface
  OfPackage : (name : List ℕ) (items : List Item) → UnitInterface

-- ---- generics and ports without a view. A port without a mode has mode `in`

abbrev pub mode_at : Form → List ℕ
mode_at form.Out = codes "out"
mode_at form.InOut = codes "inout"
mode_at _ = codes "in"

abbrev pub mode_of : Forest Resolved → List ℕ
mode_of nothing = codes "in"
mode_of (more n text place parts next) = mode_at n.form

abbrev pub shown : List ℕ → Object → Interface
shown mode o = record { name = o.name; mode = mode; mark = o.mark.text }

abbrev pub plain_ports_by : Sort → Forest Resolved → List Interface
plain_ports_by PlainPort parts = map (shown (mode_of (skipped 2 parts))) (objects_named (mark_in (skipped 3 parts)) (parts_of (next_of parts)))
plain_ports_by _ parts = []

abbrev pub plain_ports : List Node → List Interface
plain_ports [] = []
plain_ports (x ∷ xs) = plain_ports_by x.sort x.parts ++ plain_ports xs

-- ---- functions: the marks of their parameters, each its own, and of their result

abbrev pub parameter_marks : List Node → List (List ℕ)
parameter_marks [] = []
parameter_marks (x ∷ xs) = map (λ (o : Object). o.mark.text) (objects_named (mark_in (skipped 3 x.parts)) (parts_of (next_of x.parts))) ++ parameter_marks xs

abbrev pub function_marks : Forest Resolved → List (List ℕ)
function_marks parts = parameter_marks (nodes (parts_of (skipped 4 parts))) ++ (named (skipped 5 parts)).text ∷ []

-- a function is declared at its node, or at its name, which stands behind a word
abbrev pub function_number : Node → Option ℕ
function_number x = or_else x.declaration (declaration_of (next_of x.parts))

-- the first text of a function with this number
abbrev pub is_text_of : ℕ → Sort → Node → Bool
is_text_of d FunctionText x = is_number d (function_number x)
is_text_of d _ x = false

abbrev pub first_function : ℕ → List Node → List (List ℕ)
first_function d [] = []
first_function d (x ∷ xs) = if is_text_of d x.sort x then function_marks x.parts else first_function d xs

-- the marks of a function with generics, or of what it is a copy of
abbrev pub marks_of_function : ResolvedTree → Option ℕ → List (List ℕ)
marks_of_function tree None = []
marks_of_function tree (Some d) = first_function (original tree d) (all_nodes tree.units)

-- ---- what a package declares: types, subtypes, constants, functions without generics, instances of functions

abbrev pub constant_item : Object → Item
constant_item o = record { kind = Constant'; name = o.name; number = o.number; marks = o.mark.text ∷ [] }

abbrev pub items_by : ResolvedTree → Sort → Node → List Item
items_by tree TypeText x = record { kind = Type'; name = text_of x.parts; number = declared_at x; marks = [] } ∷ []
items_by tree SubtypeText x = record { kind = Subtype'; name = text_of x.parts; number = declared_at x; marks = (mark_in (next_of x.parts)).text ∷ [] } ∷ []
items_by tree ConstantObjects x = map constant_item (objects_named (mark_in (next_of x.parts)) (parts_of x.parts))
items_by tree FunctionText x =
    if is_present (skipped 2 x.parts) then [] else record { kind = Function'; name = text_of (next_of x.parts); number = function_number x; marks = function_marks x.parts } ∷ []
items_by tree FunctionInstance x =
    record { kind = Function'; name = text_of (next_of x.parts); number = function_number x; marks = marks_of_function tree (named (skipped 2 x.parts)).declaration } ∷ []
items_by tree _ x = []

abbrev pub items_in : ResolvedTree → List Node → List Item
items_in tree [] = []
items_in tree (x ∷ xs) = items_by tree x.sort x ++ items_in tree xs

-- behind the name and the generics of a package
abbrev pub package_items : ResolvedTree → Node → List Item
package_items tree x = items_in tree (nodes (parts_of (skipped 2 x.parts)))

-- ---- a package instance declares what its package with generics does, each under a number of its own

abbrev pub copy_of : List ℕ → List ℕ → Option ℕ → Option ℕ
copy_of originals copies None = None
copy_of originals copies (Some d) = at_same_place d originals copies

abbrev pub copied : List ℕ → List ℕ → Item → Item
copied originals copies i = record i { number = copy_of originals copies i.number }

abbrev pub is_package : List ℕ → Sort → List ℕ → Bool
is_package name PackageUnit own = bytes_eq own name
is_package name _ own = false

abbrev pub items_of_package : ResolvedTree → List ℕ → List Node → List Item
items_of_package tree name [] = []
items_of_package tree name (x ∷ xs) = (if is_package name x.sort (name_of x) then package_items tree x else []) ++ items_of_package tree name xs

abbrev pub instance_items : ResolvedTree → Node → List Item
instance_items tree x =
    let generic = named (next_of x.parts) in
    map (copied (own_numbers tree.declarations generic.declaration) (own_numbers tree.declarations (declared_at x))) (items_of_package tree generic.text (units_in tree.units))

-- ---- units: each entity, architecture, package without generics and package instance

abbrev pub unit_interface : ResolvedTree → Sort → Node → List UnitInterface
unit_interface tree EntityUnit x = OfEntity (name_of x) (map (shown (codes "in")) (generics_at x)) (plain_ports (nodes (parts_of (skipped 2 x.parts)))) ∷ []
unit_interface tree ArchitectureUnit x = OfArchitecture (name_of x) (text_of (next_of x.parts)) ∷ []
unit_interface tree PackageUnit x = if is_present (next_of x.parts) then [] else OfPackage (name_of x) (package_items tree x) ∷ []
unit_interface tree InstanceUnit x = OfPackage (name_of x) (instance_items tree x) ∷ []
unit_interface tree _ x = []

abbrev pub interface_of : ResolvedTree → List UnitInterface
interface_of tree = flat_map (λ (x : Node). unit_interface tree x.sort x) (units_in tree.units)

-- ---- what is kept

-- each of the first list has its own in the second one, in order; there may be others between them
abbrev pub stand_in : {A B : Type 0} → (A → B → Bool) → List A → List B → Bool
stand_in kept [] ys = true
stand_in kept (x ∷ xs) [] = false
stand_in kept (x ∷ xs) (y ∷ ys) = (kept x y && stand_in kept xs ys) || stand_in kept (x ∷ xs) ys

-- one by one
abbrev pub stand_for : {A B : Type 0} → (A → B → Bool) → List A → List B → Bool
stand_for kept [] [] = true
stand_for kept (x ∷ xs) (y ∷ ys) = kept x y && stand_for kept xs ys
stand_for kept _ _ = false

abbrev pub same_kind : Kind → Kind → Bool
same_kind Type' Type' = true
same_kind Subtype' Subtype' = true
same_kind Constant' Constant' = true
same_kind Function' Function' = true
same_kind _ _ = false

-- with its name, mode and mark, or the mark that a `type` row gives for it
abbrev pub keeps_interface : List Row → Interface → Interface → Bool
keeps_interface rows a b = bytes_eq a.name b.name && (bytes_eq a.mode b.mode && keeps_mark rows a.mark b.mark)

-- the name that a declaration has in the output
abbrev pub output_name : (ℕ → List ℕ) → Option ℕ → List ℕ
output_name names None = []
output_name names (Some d) = names d

-- under its output name, with its marks or those that `type` rows give for them
abbrev pub keeps_item : (ℕ → List ℕ) → List Row → Item → Item → Bool
keeps_item names rows a b = same_kind a.kind b.kind && (bytes_eq (output_name names a.number) b.name && stand_for (keeps_mark rows) a.marks b.marks)

abbrev pub keeps_unit : (ℕ → List ℕ) → List Row → UnitInterface → UnitInterface → Bool
keeps_unit names rows (OfEntity name generics ports) (OfEntity own generics93 ports93) =
    bytes_eq name own && (stand_for (keeps_interface rows) generics generics93 && stand_in (keeps_interface rows) ports ports93)
keeps_unit names rows (OfArchitecture name entity) (OfArchitecture own entity93) = bytes_eq name own && bytes_eq entity entity93
keeps_unit names rows (OfPackage name items) (OfPackage own items93) = bytes_eq name own && stand_in (keeps_item names rows) items items93
keeps_unit names rows _ _ = false

-- The interface is kept: all units stand there, in order of analysis.
abbrev pub keeps_interfaces : (ℕ → List ℕ) → List Row → ResolvedTree → ResolvedTree → Bool
keeps_interfaces names rows tree19 tree93 = stand_in (keeps_unit names rows) (interface_of tree19) (interface_of tree93)

pub record InterfaceIsKept (names : ℕ → List ℕ) (rows : List Row) (tree19 tree93 : ResolvedTree) : Type 0 where
  pub kept : IsTrue (keeps_interfaces names rows tree19 tree93)
