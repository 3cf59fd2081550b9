-- Which signal of the 2019 text and which of the 1993 text the rows of a map join, and which places of processes and declarations. (The format of the map.)
use Rattle.std.specs.Prelude.{ℕ, Bool, true, false, not, ◌&&◌, ◌||◌, is_some, List, [], ◌∷◌, ◌++◌, Option, Some, None, bytes_eq, if◌then◌else◌}
use Rattle.std.specs.List.{list_any}
use Rattle.std.specs.Ordering.{int_eq}
use Rattle.vd_trees.specs.declared.paths.PathIndex.{PathIndex}
use Rattle.vd_trees.specs.declared.paths.PathStep.{PathStep}
use Rattle.vd_trees.specs.declared.paths.PathStep.TheVariants.{Field, Index}
use Rattle.vd_trees.specs.declared.paths.Label.{Label}
use Rattle.vd_trees.specs.declared.paths.Level.{Level}
use Rattle.vd_trees.specs.declared.paths.Path.{Path}
use Rattle.vd_trees.specs.declared.paths.Scope.{Scope}
use Rattle.vd_trees.specs.declared.rows.Row.{Row}
use Rattle.vd_trees.specs.declared.rows.RowKind.{RowKind}
use Rattle.vd_trees.specs.declared.rows.RowKind.TheVariants.{Port, Signal, Implicit, TypeName}
use Rattle.vd_trees.specs.declared.rows.RowKind.TheVariants.{Label as LabelRow}
use Rattle.vd_trees.specs.Paths.{dotted}
use Rattle.vd_first_names.specs.Joins.{label_names, architecture_unit, object_unit}

-- The rows of a map. In a whole map each name has its row; between the texts before and behind a single pass a name for which its unit has no row stands for itself.
pub record Joining : Type 0 where
  pub rows : List Row
  pub stays : Bool

-- the join of a whole map
abbrev pub map_of : List Row → Joining
map_of rows = record { rows = rows; stays = false }

-- that of a pass with these rows
abbrev pub pass_with : List Row → Joining
pass_with rows = record { rows = rows; stays = true }

-- ---- indexes: equal on both sides

abbrev pub same_index : PathIndex → PathIndex → Bool
same_index i j = int_eq i.position j.position && bytes_eq i.text j.text

abbrev pub same_label_index : Option PathIndex → Option PathIndex → Bool
same_label_index None None = true
same_label_index (Some i) (Some j) = same_index i j
same_label_index _ _ = false

-- of labels, one by one
abbrev pub same_indexes : List Label → List Label → Bool
same_indexes [] [] = true
same_indexes (l ∷ ls) (m ∷ ms) = same_label_index l.index m.index && same_indexes ls ms
same_indexes _ _ = false

abbrev pub same_step : PathStep → PathStep → Bool
same_step (Field f) (Field g) = bytes_eq f g
same_step (Index i) (Index j) = same_index i j
same_step _ _ = false

abbrev pub same_steps : List PathStep → List PathStep → Bool
same_steps [] [] = true
same_steps (x ∷ xs) (y ∷ ys) = same_step x y && same_steps xs ys
same_steps _ _ = false

-- ---- labels: a `label` row of the unit gives both lists of them, unless both are empty. A row has them with dots between them and without their indexes

abbrev pub is_label : RowKind → Bool
is_label LabelRow = true
is_label _ = false

abbrev pub same_names : List Label → List Label → Bool
same_names [] [] = true
same_names (l ∷ ls) (m ∷ ms) = bytes_eq l.name m.name && same_names ls ms
same_names _ _ = false

-- a row of the unit for these labels
abbrev pub is_row_of_labels : List ℕ → List Label → Row → Bool
is_row_of_labels unit ls row = is_label row.kind && (bytes_eq row.unit unit && bytes_eq row.name19 (dotted (label_names ls)))

abbrev pub gives_labels : List ℕ → List Label → List Label → Row → Bool
gives_labels unit ls ms row = is_row_of_labels unit ls row && bytes_eq row.name93 (dotted (label_names ms))

abbrev pub are_none : List Label → List Label → Bool
are_none [] [] = true
are_none _ _ = false

abbrev pub labels_stay : Joining → List ℕ → List Label → List Label → Bool
labels_stay by unit ls ms = by.stays && (same_names ls ms && not (list_any (is_row_of_labels unit ls) by.rows))

abbrev pub labels_join : Joining → List ℕ → List Label → List Label → Bool
labels_join by unit ls ms = same_indexes ls ms && (are_none ls ms || (list_any (gives_labels unit ls ms) by.rows || labels_stay by unit ls ms))

-- ---- levels: one by one the same entity and architecture is reached, by labels that join in the unit above

abbrev pub level_joins : Joining → List ℕ → Level → Level → Bool
level_joins by above l m = bytes_eq l.entity m.entity && (bytes_eq l.architecture m.architecture && labels_join by above l.labels m.labels)

abbrev pub levels_join : Joining → List ℕ → List Level → List Level → Bool
levels_join by above [] [] = true
levels_join by above (l ∷ ls) (m ∷ ms) = level_joins by above l m && levels_join by (architecture_unit l) ls ms
levels_join by above _ _ = false

-- where something is declared
abbrev pub last_level : List Level → Option Level
last_level [] = None
last_level (l ∷ []) = Some l
last_level (l ∷ m ∷ ms) = last_level (m ∷ ms)

-- ---- objects: a `port`, `signal` or `implicit` row of the unit gives both names, each led by the labels of the generates round the object. An element of a view is
-- one name, `p.a`: the object and its fields

abbrev pub is_object : RowKind → Bool
is_object Port = true
is_object Signal = true
is_object Implicit = true
is_object LabelRow = false
is_object TypeName = false

abbrev pub object_names : Path → List (List ℕ)
object_names p = label_names p.generates ++ p.object ∷ []

-- What a name leaves of some steps, which stand behind the names in front: it is made of these and of as many fields as it takes.
abbrev pub left_by : List ℕ → List (List ℕ) → List PathStep → Option (List PathStep)
left_by name front [] = if bytes_eq name (dotted front) then Some [] else None
left_by name front (Index i ∷ steps) = if bytes_eq name (dotted front) then Some (Index i ∷ steps) else None
left_by name front (Field f ∷ steps) = if bytes_eq name (dotted front) then Some (Field f ∷ steps) else left_by name (front ++ f ∷ []) steps

-- the remaining fields and indexes are equal
abbrev pub leave_same : Option (List PathStep) → Option (List PathStep) → Bool
leave_same (Some s) (Some t) = same_steps s t
leave_same _ _ = false

-- a port's row stands in its entity, that of another signal in its architecture
abbrev pub stands_at : Row → Option Level → Bool
stands_at row None = false
stands_at row (Some level) = bytes_eq row.unit (object_unit row.kind level)

-- a row of the unit for the object of a path, perhaps with fields of it
abbrev pub is_row_of : Path → Row → Bool
is_row_of p row = is_object row.kind && (stands_at row (last_level p.levels) && is_some (left_by row.name19 (object_names p) p.rest))

abbrev pub gives_objects : Path → Path → Row → Bool
gives_objects p q row = is_row_of p row && leave_same (left_by row.name19 (object_names p) p.rest) (left_by row.name93 (object_names q) q.rest)

abbrev pub object_stays : Joining → Path → Path → Bool
object_stays by p q =
    by.stays && (same_names p.generates q.generates && (bytes_eq p.object q.object && (same_steps p.rest q.rest && not (list_any (is_row_of p) by.rows))))

-- ---- whether two paths join

abbrev pub objects_join : Joining → Path → Path → Bool
objects_join by p q = list_any (gives_objects p q) by.rows || object_stays by p q

abbrev pub joins : Joining → Path → Path → Bool
joins by p q = levels_join by [] p.levels q.levels && (same_indexes p.generates q.generates && objects_join by p q)

-- ---- whether two scopes join: level by level as paths, and by a `label` row for the generates round the place; packages by equal names. A package has no labels

abbrev pub generates_join : Joining → Option Level → List Label → List Label → Bool
generates_join by None ls ms = same_indexes ls ms && same_names ls ms
generates_join by (Some level) ls ms = labels_join by (architecture_unit level) ls ms

abbrev pub scopes_join : Joining → Scope → Scope → Bool
scopes_join by s t =
    levels_join by [] s.levels t.levels && (generates_join by (last_level s.levels) s.generates t.generates && bytes_eq s.unit t.unit)
