-- The forests in a forest: itself, those in the parts of its first tree, those behind that tree.
use Rattle.std.specs.Prelude.{ℕ, ◌+◌, ◌*◌, List, [], ◌∷◌, ◌++◌}
use Rattle.vd_forest.specs.Forest.{Forest, nothing, more, size}

abbrev pub visited : {F : Type 0} → Forest F → List (Forest F)
visited nothing = nothing ∷ []
visited (more form text place parts next) = more form text place parts next ∷ (visited parts ++ visited next)

-- those in some forests, from the last one on
abbrev pub all_visited : {F : Type 0} → List (Forest F) → List (Forest F)
all_visited [] = []
all_visited (f ∷ fs) = all_visited fs ++ visited f

-- how many there are
abbrev pub visits : {F : Type 0} → List (Forest F) → ℕ
visits [] = 0
visits (f ∷ fs) = visits fs + (2 * size f + 1)
