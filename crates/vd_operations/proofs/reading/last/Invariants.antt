use Rattle.std.proofs.Common.{◌≡◌, ◌≤◌}
use Rattle.vd_forest.specs.Forest.{size, tree_count}
use Rattle.vd_operations.specs.Passing.{last_tree}
use Rattle.vd_operations.proofs.reading.last.Given as goal

abbrev pub invariant-loop-first : goal.invariant-loop-first
invariant-loop-first l = record { same : last_tree l.rest ≡ last_tree l.trees; within : size l.rest ≤ size l.trees }

abbrev pub decreases-loop-first : goal.decreases-loop-first
decreases-loop-first l = tree_count l.rest
