-- The units of a top: an entity, and one of its architectures. (IEEE 1076, elaboration of a design hierarchy; design units and their
-- analysis; generics.)
use Rattle.std.specs.Prelude.{◌≡◌, ◌<◌, ℕ, ◌+◌, Bool, true, false, ◌&&◌, not, List, [], ◌∷◌, Option, Some, None, option_and_then, if◌then◌else◌}
use Rattle.vd_forest.specs.Forest.{Forest, nothing, more, text_of, parts_of, next_of, skipped}
use Rattle.vd_forms.specs.declared.form.Form.{Form}
use Rattle.vd_forms.specs.declared.form.Form.TheVariants as form
use Rattle.vd_forms.specs.Forms.{same_form, is_among}
use Rattle.vd_resolved.specs.declared.node.Resolved.{Resolved}
use Rattle.vd_resolved.specs.Trees.{ResolvedTree}
use Rattle.vd_tops.specs.declared.tops.TopId.{TopId}
use Rattle.vd_tops.specs.TopNames.{TopName, name_told, is_meant, is_wanted}

-- ---- library units

-- what stands ahead of a library unit, and what stands round one
abbrev pub is_ahead : Form → Bool
is_ahead f = is_among (form.ContextClause ∷ form.ContextReference ∷ []) f

abbrev pub is_round : Form → Bool
is_round f = is_among (form.DesignUnit ∷ form.ReferringUnit ∷ []) f

-- The library unit of a design unit by the parts of that. It stands behind the context clauses and the references to contexts.
abbrev pub library_unit : Forest Resolved → Forest Resolved
library_unit nothing = nothing
library_unit (more node text place parts next) =
    if is_ahead node.form then library_unit next else (if is_round node.form then library_unit parts else more node text place parts next)

-- the library unit of the design unit of that number
abbrev pub unit_at : Forest Resolved → ℕ → Forest Resolved
unit_at units n = library_unit (parts_of (skipped n units))

-- an entity's first part is its name
abbrev pub is_entity : List ℕ → Forest Resolved → Bool
is_entity entity nothing = false
is_entity entity (more node text place parts next) = same_form node.form form.EntityDeclaration && is_meant entity (text_of parts)

-- an architecture's first part is its name, its second one that of its entity
abbrev pub is_architecture : TopName → Forest Resolved → Bool
is_architecture top nothing = false
is_architecture top (more node text place parts next) =
    same_form node.form form.ArchitectureBody && (is_meant top.entity (text_of (next_of parts)) && is_wanted top.architecture (text_of parts))

-- the number of the last design unit whose library unit passes, where the first one has this number, or what was found before
abbrev pub last_passing : (Forest Resolved → Bool) → Option ℕ → ℕ → Forest Resolved → Option ℕ
last_passing test found n nothing = found
last_passing test found n (more node text place parts next) =
    last_passing test (if test (library_unit parts) then Some n else found) (n + 1) next

-- ---- generics

-- the generics of an entity: what stands in its generic clause, which is its second part
abbrev pub generics_of : Forest Resolved → Forest Resolved
generics_of entity = parts_of (next_of (parts_of entity))

-- something stands at the head, and it isn't `Absent`
abbrev pub is_there : Forest Resolved → Bool
is_there nothing = false
is_there (more node text place parts next) = not (same_form node.form form.Absent)

-- a generic constant's fifth part is its default
abbrev pub lacks_default : Form → Forest Resolved → Bool
lacks_default f parts = same_form f form.GenericConstant && not (is_there (skipped 4 parts))

abbrev pub have_defaults : Forest Resolved → Bool
have_defaults nothing = true
have_defaults (more node text place parts next) = not (lacks_default node.form parts) && have_defaults next

-- ---- tops

-- both units, where each generic of the entity has a default
abbrev pub both_units : Forest Resolved → Option ℕ → Option ℕ → Option TopId
both_units units (Some e) (Some a) =
    if have_defaults (generics_of (unit_at units e)) then Some (record { entity = e; architecture = a }) else None
both_units units _ _ = None

abbrev pub top_among : Forest Resolved → TopName → Option TopId
top_among units top =
    both_units units (last_passing (is_entity top.entity) None 0 units) (last_passing (is_architecture top) None 0 units)

-- the top of that name in a design
abbrev pub top_named : ResolvedTree → List ℕ → Option TopId
top_named design name = option_and_then (top_among design.units) (name_told name)

-- rule 311: the name is that of no top
abbrev pub Breaks311 : ResolvedTree → List ℕ → Type 0
Breaks311 design name = top_named design name ≡ None

-- ---- what is so of a top

-- the library unit of that number passes, and none of the design units behind it has one that does
pub record IsLast (test : Forest Resolved → Bool) (units : Forest Resolved) (n : ℕ) : Type 0 where
  pub passes : test (unit_at units n) ≡ true
  pub last : (k : ℕ) → n < k → test (unit_at units k) ≡ false

-- the entity is the last of its name, the architecture the last one that is wanted, and each generic has a default
pub record IsTop (units : Forest Resolved) (name : TopName) (top : TopId) : Type 0 where
  pub entity : IsLast (is_entity name.entity) units top.entity
  pub architecture : IsLast (is_architecture name) units top.architecture
  pub defaults : have_defaults (generics_of (unit_at units top.entity)) ≡ true

-- and so it is of a top by its name
pub record IsNamed (design : ResolvedTree) (name : List ℕ) (top : TopId) : Type 0 where
  pub told : TopName
  pub is_told : name_told name ≡ Some told
  pub is_top : IsTop design.units told top
