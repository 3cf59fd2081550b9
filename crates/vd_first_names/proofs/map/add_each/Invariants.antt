use Rattle.std.proofs.Common.{◌≡◌, ◌++◌}
use Rattle.vd_forest.specs.Forest.{size}
use Rattle.vd_first_names.specs.Maps.{rows_each}
use Rattle.vd_first_names.proofs.map.add_each.Given as goal

abbrev pub invariant-loop-first : goal.invariant-loop-first
invariant-loop-first l = l.rows.items ++ rows_each l.unit l.left l.mark l.mode ≡ l.fn.rows.items ++ rows_each l.unit l.fn.identifiers l.mark l.mode

abbrev pub decreases-loop-first : goal.decreases-loop-first
decreases-loop-first l = size l.left
