-- Tops of two designs: an entity, one of its architectures or the last one, and values for its generics by their names, which both designs have. (IEEE 1076,
-- elaboration of a design hierarchy; generics.)
use Rattle.std.specs.Prelude.{ℕ, ◌&&◌, Bool, false, List, [], ◌∷◌, ◌++◌, Option, Some, None, IsTrue, bytes_eq}
use Rattle.std.specs.List.{flat_map, list_any}
use Rattle.vd_values.specs.declared.scalar.Scalar.{Scalar}
use Rattle.vd_composites.specs.Composites.{Value}
use Rattle.vd_forest.specs.Forest.{Forest, text_of, parts_of, next_of, skipped}
use Rattle.vd_resolved.specs.declared.node.Resolved.{Resolved}
use Rattle.vd_resolved.specs.Trees.{ResolvedTree}
use Rattle.vd_trees.specs.declared.revision.Revision.{Revision}
use Rattle.vd_meaning.specs.Tables.{table}
use Rattle.vd_meaning.specs.Elaborations.{Top}
use Rattle.vd_meaning.specs.Hierarchies.{is_wanted}
use Rattle.vd_maps.specs.Units.{Sort, ArchitectureUnit, Node, units_in, nodes, mark_in, Object, objects_named, objects_of_name}
use Rattle.vd_maps.specs.Marks.{is_entity, name_of, entities_in}
use Rattle.vd_maps.specs.TypedValues.{have_values}

-- The generics that are left out have their defaults.
pub record NamedTop : Type 0 where
  pub entity : List ℕ
  pub architecture : Option (List ℕ)
  pub generics : List (List ℕ × Value Scalar)

-- ---- generics of an entity by their names. Its second part is its generic clause, each of whose parts has names behind a word, and a subtype behind a mode

abbrev pub generic_objects : List Node → List Object
generic_objects [] = []
generic_objects (x ∷ xs) = objects_named (mark_in (skipped 3 x.parts)) (parts_of (next_of x.parts)) ++ generic_objects xs

abbrev pub generics_at : Node → List Object
generics_at x = generic_objects (nodes (parts_of (next_of x.parts)))

abbrev pub entity_generics : ResolvedTree → List ℕ → List Object
entity_generics tree name = flat_map generics_at (entities_in name (units_in tree.units))

abbrev pub with_number : Value Scalar → Option ℕ → List (ℕ × Value Scalar)
with_number v None = []
with_number v (Some d) = (d, v) ∷ []

-- the generic of a name, with its value
abbrev pub numbered_generic : List Object → List ℕ × Value Scalar → List (ℕ × Value Scalar)
numbered_generic os g = flat_map (λ (o : Object). with_number g.1 o.number) (objects_of_name g.0 os)

-- the top in a tree, where generics have numbers
abbrev pub top_in : ResolvedTree → NamedTop → Top
top_in tree top =
    record { entity = top.entity; architecture = top.architecture; generics = flat_map (numbered_generic (entity_generics tree top.entity)) top.generics }

-- ---- whether a tree has a top: its entity, and an architecture of it, of the name that is wanted

abbrev pub has_entity : List ℕ → List Node → Bool
has_entity name units = list_any (λ (x : Node). is_entity name x.sort (name_of x)) units

abbrev pub is_architecture_of : NamedTop → Sort → Forest Resolved → Bool
is_architecture_of top ArchitectureUnit parts = bytes_eq (text_of (next_of parts)) top.entity && is_wanted top.architecture (text_of parts)
is_architecture_of top _ parts = false

abbrev pub has_architecture : NamedTop → List Node → Bool
has_architecture top units = list_any (λ (x : Node). is_architecture_of top x.sort x.parts) units

abbrev pub HasTop : ResolvedTree → NamedTop → Type 0
HasTop tree top = IsTrue (has_entity top.entity (units_in tree.units)) × IsTrue (has_architecture top (units_in tree.units))

-- what is given to the generics are values of their types
abbrev pub HasTypedGenerics : Revision → ResolvedTree → NamedTop → Type 0
HasTypedGenerics r tree top = IsTrue (have_values tree.declarations (table r tree.declarations) (top_in tree top).generics)
