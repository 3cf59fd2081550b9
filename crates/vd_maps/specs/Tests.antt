-- Whether a map is whole for two designs, as a test.
use Rattle.std.specs.Prelude.{Bool, false, not, ◌&&◌, ◌||◌, List, [], ◌∷◌, bytes_eq, if◌then◌else◌}
use Rattle.std.specs.List.{list_any, list_all}
use Rattle.vd_trees.specs.declared.rows.Row.{Row}
use Rattle.vd_resolved.specs.Trees.{ResolvedTree}
use Rattle.vd_meaning.specs.Building.{ScalarObject, Made}
use Rattle.vd_joins.specs.Joins.{Joining, map_of, object_names, gives_objects, joins}
use Rattle.vd_maps.specs.Marks.{marks_of, taken_by}
use Rattle.vd_maps.specs.WholeMaps.{mode_text, is_kind_of, has_mark, has_kept_mark}

-- one of a list passes, and no other one
abbrev pub is_one : {A : Type 0} → (A → Bool) → List A → Bool
is_one passes [] = false
is_one passes (x ∷ xs) = if passes x then not (list_any passes xs) else is_one passes xs

abbrev pub join_one_to_one : Joining → List ScalarObject → List ScalarObject → Bool
join_one_to_one by ms ns =
    list_all (λ (m : ScalarObject). is_one (λ (n : ScalarObject). joins by m.path n.path) ns) ms
    && list_all (λ (n : ScalarObject). is_one (λ (m : ScalarObject). joins by m.path n.path) ms) ns

-- what a row says of two signals that it joins
abbrev pub is_true_row : List Row → (tree19 tree93 : ResolvedTree) → (m n : ScalarObject) → Row → Bool
is_true_row rows tree19 tree93 m n row =
    is_kind_of row.kind m.mode m.path.object
    && (has_mark row.mark (marks_of tree19 m (taken_by row.name19 (object_names m.path) m.path.rest))
    && (has_kept_mark rows row.mark (marks_of tree93 n (taken_by row.name93 (object_names n.path) n.path.rest))
    && (bytes_eq row.mode (mode_text m.mode) && bytes_eq row.mode (mode_text n.mode))))

abbrev pub is_true_where_it_joins : List Row → (tree19 tree93 : ResolvedTree) → (m n : ScalarObject) → Row → Bool
is_true_where_it_joins rows tree19 tree93 m n row = not (gives_objects m.path n.path row) || is_true_row rows tree19 tree93 m n row

abbrev pub rows_are_true : List Row → (tree19 tree93 : ResolvedTree) → List ScalarObject → List ScalarObject → Bool
rows_are_true rows tree19 tree93 ms ns =
    list_all (λ (m : ScalarObject). list_all (λ (n : ScalarObject). list_all (is_true_where_it_joins rows tree19 tree93 m n) rows) ns) ms

abbrev pub is_whole : List Row → (tree19 tree93 : ResolvedTree) → (m n : Made) → Bool
is_whole rows tree19 tree93 m n = join_one_to_one (map_of rows) m.signals n.signals && rows_are_true rows tree19 tree93 m.signals n.signals
