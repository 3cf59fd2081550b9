-- What is still to be compared of two forests.
use Rattle.std.specs.Prelude.{ℕ, ◌+◌, ◌*◌, List, [], ◌∷◌}
use Rattle.vd_forest.specs.Forest.{size}
use Rattle.vd_modes.specs.declared.sameness.Pair.{Pair}

-- how much it is
abbrev pub work : List Pair → ℕ
work [] = 0
work (p ∷ ps) = work ps + (2 * size p.left + 1)
