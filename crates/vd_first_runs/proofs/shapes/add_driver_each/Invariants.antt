use Rattle.std.proofs.Common.{◌≡◌, ◌++◌, replicate}
use Rattle.vd_forest.specs.Forest.{size, tree_count}
use Rattle.vd_first_runs.specs.Shapes.{plain_driver}
use Rattle.vd_first_runs.proofs.shapes.add_driver_each.Given as goal

abbrev pub invariant-loop-first : goal.invariant-loop-first
invariant-loop-first l = l.drivers.items ++ replicate (tree_count l.left) plain_driver ≡ l.fn.drivers.items ++ replicate (tree_count l.identifiers) plain_driver

abbrev pub decreases-loop-first : goal.decreases-loop-first
decreases-loop-first l = size l.left
