-- The top of a hierarchy: an entity and one of its architectures. (IEEE 1076, elaboration of a design hierarchy.)
use Rattle.std.specs.Prelude.{ℕ, Bool, true, ◌&&◌, List, Option, Some, None, bytes_eq, if◌then◌else◌}
use Rattle.vd_forest.specs.Forest.{Forest, nothing, more, text_of, next_of, with_next}
use Rattle.vd_first_trees.specs.declared.form.Form.{Form}
use Rattle.vd_first_trees.specs.declared.form.Form.TheVariants as form
use Rattle.vd_first_trees.specs.Forms.{same_form}

-- an entity by its name, and its architecture by its name, or without one the last that is analysed
pub record Top : Type 0 where
  pub entity : List ℕ
  pub architecture : Option (List ℕ)

-- the library units of some design units, in the order of analysis. A design unit is a context clause and a library unit
abbrev pub library_units : Forest Form → Forest Form
library_units nothing = nothing
library_units (more f t p parts next) = with_next (next_of parts) (library_units next)

-- an entity's first part is its name
abbrev pub is_entity : List ℕ → Form → Forest Form → Bool
is_entity name f parts = same_form f form.EntityDeclaration && bytes_eq (text_of parts) name

abbrev pub is_wanted : Option (List ℕ) → List ℕ → Bool
is_wanted None name = true
is_wanted (Some wanted) name = bytes_eq name wanted

-- an architecture's first part is its name, its second one that of its entity
abbrev pub is_architecture : Top → Form → Forest Form → Bool
is_architecture top f parts =
    same_form f form.ArchitectureBody && (bytes_eq (text_of (next_of parts)) top.entity && is_wanted top.architecture (text_of parts))

-- the parts of the last of some trees that passes the test, or what was found before
abbrev pub last_passing : (Form → Forest Form → Bool) → Option (Forest Form) → Forest Form → Option (Forest Form)
last_passing test found nothing = found
last_passing test found (more f t p parts next) = last_passing test (if test f parts then Some parts else found) next

-- the parts of the entity and those of the architecture
pub record TopUnits : Type 0 where
  pub entity : Forest Form
  pub architecture : Forest Form

abbrev pub both_units : Option (Forest Form) → Option (Forest Form) → Option TopUnits
both_units (Some e) (Some a) = Some (record { entity = e; architecture = a })
both_units _ _ = None

-- the units of a top, where a design has them
abbrev pub top_units : Forest Form → Top → Option TopUnits
top_units units top =
    both_units (last_passing (is_entity top.entity) None (library_units units)) (last_passing (is_architecture top) None (library_units units))
