-- Joins by the rows of a whole map. No name has a dash, so that a caller can name each in `#[tactic(auto, using(..))]`.
use Rattle.std.proofs.Common.{◌≡◌, ℕ, List, [], ◌∷◌, ◌++◌, Option, Some, None, Bool, true, false, length, refl, sym, ap, ◌∙◌, arith}
use Rattle.std.specs.Prelude.{◌&&◌, ◌||◌, is_some}
use Rattle.std.specs.List.{list_any}
use Rattle.vd_trees.specs.declared.paths.Label.{Label}
use Rattle.vd_trees.specs.declared.paths.Level.{Level}
use Rattle.vd_trees.specs.declared.paths.Path.{Path}
use Rattle.vd_trees.specs.declared.paths.PathStep.{PathStep}
use Rattle.vd_trees.specs.declared.rows.Row.{Row}
use Rattle.vd_joins.specs.Joins.{are_none, gives_labels, gives_objects, is_object, joins, labels_join, last_level, leave_same, left_by, levels_join, map_of, object_names, same_indexes, same_steps, stands_at}

or_false : (b : Bool) → b ≡ (b || false)
or_false true = refl
or_false false = refl

-- ---- labels

pub labels_differ : (rows : List Row) (unit : List ℕ) (ls ms : List Label) → same_indexes ls ms ≡ false → false ≡ labels_join (map_of rows) unit ls ms
labels_differ rows unit ls ms differ = ap (λ v. v && (are_none ls ms || (list_any (gives_labels unit ls ms) rows || false))) (sym differ)

pub labels_given : (rows : List Row) (unit : List ℕ) (ls ms : List Label) (none some : Bool) → same_indexes ls ms ≡ true → none ≡ are_none ls ms → some ≡ list_any (gives_labels unit ls ms) rows
    → (none || some) ≡ labels_join (map_of rows) unit ls ms
labels_given rows unit ls ms none some same is any =
    (λ i. is i || any i) ∙ ap (λ v. are_none ls ms || v) (or_false (list_any (gives_labels unit ls ms) rows))
    ∙ ap (λ v. v && (are_none ls ms || (list_any (gives_labels unit ls ms) rows || false))) (sym same)

pub ruleset labels_of_map = (labels_differ, labels_given)

-- ---- the last level

last_behind : (front : List Level) (last : Level) → last_level (front ++ last ∷ []) ≡ Some last
last_behind [] last = refl
last_behind (l ∷ []) last = refl
last_behind (l ∷ m ∷ ms) last = last_behind (m ∷ ms) last

pub last_there : (levels front : List Level) (last : Level) → levels ≡ front ++ last ∷ [] → Some last ≡ last_level levels
last_there levels front last is = sym (ap last_level is ∙ last_behind front last)

pub last_missing : (levels : List Level) → length levels ≡ 0 → None ≡ last_level levels
last_missing [] none = refl
last_missing (l ∷ ls) none = absurd (omega (arith, none))

pub ruleset last_is_last = (last_there, last_missing)

-- ---- objects

abbrev given : Bool → Bool → Option (List PathStep) → Option (List PathStep) → Bool
given object stands left other = (object && (stands && is_some left)) && leave_same left other

pub other_kind : (p q : Path) (row : Row) → is_object row.kind ≡ false → false ≡ gives_objects p q row
other_kind p q row isnt =
    ap (λ v. given v (stands_at row (last_level p.levels)) (left_by row.name19 (object_names p) p.rest) (left_by row.name93 (object_names q) q.rest)) (sym isnt)

pub other_unit : (p q : Path) (row : Row) → is_object row.kind ≡ true → stands_at row (last_level p.levels) ≡ false → false ≡ gives_objects p q row
other_unit p q row object isnt =
    (λ i. given (sym object i) (sym isnt i) (left_by row.name19 (object_names p) p.rest) (left_by row.name93 (object_names q) q.rest))

pub left_on_both : (p q : Path) (row : Row) (s t : List PathStep) (same : Bool) → is_object row.kind ≡ true → stands_at row (last_level p.levels) ≡ true
    → Some s ≡ left_by row.name19 (object_names p) p.rest → Some t ≡ left_by row.name93 (object_names q) q.rest → same ≡ same_steps s t → same ≡ gives_objects p q row
left_on_both p q row s t same object stands left other is = is ∙ (λ i. given (sym object i) (sym stands i) (left i) (other i))

pub nothing_left : (p q : Path) (row : Row) → is_object row.kind ≡ true → stands_at row (last_level p.levels) ≡ true → None ≡ left_by row.name19 (object_names p) p.rest
    → false ≡ gives_objects p q row
nothing_left p q row object stands left = (λ i. given (sym object i) (sym stands i) (left i) (left_by row.name93 (object_names q) q.rest))

pub nothing_left_there : (p q : Path) (row : Row) (s : List PathStep) → is_object row.kind ≡ true → stands_at row (last_level p.levels) ≡ true
    → Some s ≡ left_by row.name19 (object_names p) p.rest → None ≡ left_by row.name93 (object_names q) q.rest → false ≡ gives_objects p q row
nothing_left_there p q row s object stands left other = (λ i. given (sym object i) (sym stands i) (left i) (other i))

pub ruleset both_given = (other_kind, other_unit, left_on_both, nothing_left, nothing_left_there)

-- ---- paths

pub paths_given : (rows : List Row) (p q : Path) (some : Bool) → levels_join (map_of rows) [] p.levels q.levels ≡ true → same_indexes p.generates q.generates ≡ true
    → some ≡ list_any (gives_objects p q) rows → some ≡ joins (map_of rows) p q
paths_given rows p q some levels same is =
    is ∙ or_false (list_any (gives_objects p q) rows)
    ∙ (λ i. sym levels i && (sym same i && (list_any (gives_objects p q) rows || false)))

pub levels_differ : (rows : List Row) (p q : Path) → levels_join (map_of rows) [] p.levels q.levels ≡ false → false ≡ joins (map_of rows) p q
levels_differ rows p q isnt = ap (λ v. v && (same_indexes p.generates q.generates && (list_any (gives_objects p q) rows || false))) (sym isnt)

pub indexes_differ : (rows : List Row) (p q : Path) → levels_join (map_of rows) [] p.levels q.levels ≡ true → same_indexes p.generates q.generates ≡ false → false ≡ joins (map_of rows) p q
indexes_differ rows p q levels isnt = (λ i. sym levels i && (sym isnt i && (list_any (gives_objects p q) rows || false)))

pub ruleset paths_of_map = (paths_given, levels_differ, indexes_differ)
