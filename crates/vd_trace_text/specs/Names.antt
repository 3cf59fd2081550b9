-- The names of a path, each with a dot (46) behind it.
use Rattle.std.specs.Prelude.{ℕ, List, [], ◌∷◌, ◌++◌}
use Rattle.std.specs.List.{flat_map}
use Rattle.vd_trees.specs.declared.paths.Label.{Label}
use Rattle.vd_trees.specs.declared.paths.Level.{Level}
use Rattle.vd_trees.specs.Paths.{label_text, way_to}

abbrev pub with_dot : List ℕ → List ℕ
with_dot name = name ++ 46 ∷ []

abbrev pub label_with_dot : Label → List ℕ
label_with_dot l = with_dot (label_text l)

abbrev pub labels_of : List Level → List Label
labels_of levels = flat_map (λ (l : Level). l.labels) levels

-- the names on the way to a place
abbrev pub way_with_dots : List Level → List Label → List ℕ
way_with_dots levels generates = flat_map with_dot (way_to levels generates)
