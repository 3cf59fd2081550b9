-- The unit in whose rows the labels of a level stand: that of the level above.
use Rattle.std.specs.Prelude.{ℕ, List, [], Option, Some, None}
use Rattle.vd_trees.specs.declared.paths.Level.{Level}
use Rattle.vd_first_names.specs.Joins.{architecture_unit}

abbrev pub unit_above : Option Level → List ℕ
unit_above None = []
unit_above (Some level) = architecture_unit level
