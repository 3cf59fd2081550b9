-- A top by its name, as `entity` or `entity(architecture)`, in letters of either case.
use Rattle.std.specs.Prelude.{ℕ, ◌+◌, ◌-◌, List, length, take, drop, position, ◌==◌, if◌then◌else◌, Option, Some, None, is_some, option_and_then, slice_index_or}
use Rattle.vd_forest.specs.Forest.{Forest}
use Rattle.vd_first_trees.specs.declared.form.Form.{Form}
use Rattle.vd_trees.specs.Identifiers.{lowered}
use Rattle.vd_first_elaboration.specs.Tops.{Top}
use Rattle.vd_first_elaboration.specs.Elaboration.{elaboration}

-- the last byte of a text, or 0 where it has none
abbrev pub last_byte : List ℕ → ℕ
last_byte text = slice_index_or text (length text - 1) 0

-- The top of this entity, where this stands behind an opening bracket: a closing one (41) stands at the end, and the architecture's name
-- before it.
abbrev pub closed_top : (entity rest : List ℕ) → Option Top
closed_top entity rest =
    if last_byte rest == 41 then Some (record { entity = entity; architecture = Some (take (length rest - 1) rest) }) else None

-- the top that a name in lower case tells, whose first opening bracket (40) stands at this place
abbrev pub told_top : List ℕ → Option ℕ → Option Top
told_top name None = Some (record { entity = name; architecture = None })
told_top name (Some i) = closed_top (take i name) (drop (i + 1) name)

abbrev pub top_told : List ℕ → Option Top
top_told name = told_top name (position (λ b. b == 40) name)

-- it is a top where the design has its units
abbrev pub if_elaborated : Forest Form → Top → Option Top
if_elaborated units top = if is_some (elaboration units top) then Some top else None

-- the top of that name in a design
abbrev pub top_named : Forest Form → List ℕ → Option Top
top_named units name = option_and_then (if_elaborated units) (top_told (lowered name))
