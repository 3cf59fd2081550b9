-- A top by its name, as `entity` or `entity(architecture)`, in letters of either case. No blank is skipped.
use Rattle.std.specs.Prelude.{ℕ, ◌+◌, ◌-◌, Bool, true, List, length, take, drop, position, ◌==◌, bytes_eq, if◌then◌else◌, Option, Some, None, slice_index_or}
use Rattle.vd_trees.specs.Identifiers.{lowered}

-- an entity and its architecture, as they are written, or an entity alone
pub record TopName : Type 0 where
  pub entity : List ℕ
  pub architecture : Option (List ℕ)

-- the last byte of a text, or 0 where it has none
abbrev pub last_byte : List ℕ → ℕ
last_byte text = slice_index_or text (length text - 1) 0

-- The top of this entity, where this stands behind an opening bracket: a closing one (41) stands at the end, and the architecture's name
-- before it.
abbrev pub closed_name : (entity rest : List ℕ) → Option TopName
closed_name entity rest =
    if last_byte rest == 41 then Some (record { entity = entity; architecture = Some (take (length rest - 1) rest) }) else None

-- what a name tells, whose first opening bracket (40) stands at this place
abbrev pub told_name : List ℕ → Option ℕ → Option TopName
told_name name None = Some (record { entity = name; architecture = None })
told_name name (Some i) = closed_name (take i name) (drop (i + 1) name)

abbrev pub name_told : List ℕ → Option TopName
name_told name = told_name name (position (λ b. b == 40) name)

-- Whether a unit of this name is meant: names stand in trees in lower case.
abbrev pub is_meant : (written name : List ℕ) → Bool
is_meant written name = bytes_eq name (lowered written)

-- whether an architecture of this name is meant
abbrev pub is_wanted : Option (List ℕ) → List ℕ → Bool
is_wanted None name = true
is_wanted (Some written) name = is_meant written name
