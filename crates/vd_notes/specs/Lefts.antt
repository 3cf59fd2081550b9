-- What is still to be walked of a text.
use Rattle.std.specs.Prelude.{ℕ, ◌+◌, ◌*◌, List, [], ◌∷◌, ◌++◌}
use Rattle.vd_forest.specs.Forest.{size}
use Rattle.vd_notes.specs.declared.entries.Entry.{Entry}
use Rattle.vd_notes.specs.declared.entries.Left.{Left}
use Rattle.vd_notes.specs.Entries.{entries}

-- what is declared in what waits, from the last on
abbrev pub all_left : List Left → List Entry
all_left [] = []
all_left (l ∷ ls) = all_left ls ++ entries l.home l.trees

-- how much it is
abbrev pub work : List Left → ℕ
work [] = 0
work (l ∷ ls) = work ls + (2 * size l.trees + 1)
