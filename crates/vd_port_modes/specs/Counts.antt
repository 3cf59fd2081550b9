-- How many views there are.
use Rattle.std.specs.Prelude.{◌+◌, ◌++◌, ◌∷◌, List, [], length, map, ℕ}
use Rattle.vd_meaning.specs.Elaborations.{views_as}
use Rattle.vd_meaning.specs.NodeFacets.{View}
use Rattle.vd_port_lists.specs.Listed.{read_view}
use Rattle.vd_port_lists.specs.declared.views.ListedView.{ListedView}

-- the copies that an instance has
abbrev pub copied_count : List (ℕ × ℕ) → List ListedView → ℕ
copied_count cs vs = length (views_as cs (map read_view vs))

abbrev pub all_copied : List ListedView → List (List (ℕ × ℕ)) → List View
all_copied vs [] = []
all_copied vs (cs ∷ css) = views_as cs (map read_view vs) ++ all_copied vs css

-- those that a design declares itself, and all copies
abbrev pub view_count : List ListedView → List (List (ℕ × ℕ)) → ℕ
view_count vs css = length vs + length (all_copied vs css)
