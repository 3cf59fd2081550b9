use Rattle.std.proofs.Common.{◌≡◌, ◌++◌}
use Rattle.vd_forest.specs.Forest.{size}
use Rattle.vd_first_names.specs.Maps.{design_rows}
use Rattle.vd_first_names.proofs.map.map_of.Given as goal

abbrev pub invariant-loop-first : goal.invariant-loop-first
invariant-loop-first l = l.rows.items ++ design_rows l.left ≡ design_rows l.fn.design

abbrev pub decreases-loop-first : goal.decreases-loop-first
decreases-loop-first l = size l.left
