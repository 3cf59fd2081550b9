use Rattle.std.proofs.Common.{◌≡◌, ◌≤◌, ◌+◌, ◌*◌}
use Rattle.vd_forest.specs.Forest.{size}
use Rattle.vd_first_elaboration.specs.Expressions.{names_read, each_once}
use Rattle.vd_first_processes.proofs.resolution.+reading.Given as goal

abbrev pub decreases-add_read : goal.decreases-add_read
decreases-add_read l = 2 * size l.from.now + 1

abbrev pub decreases-add_read_by : goal.decreases-add_read_by
decreases-add_read_by l = 2 * size l.tree.now.parts + 2

abbrev pub invariant-add_read-loop-first : goal.invariant-add_read-loop-first
invariant-add_read-loop-first l = record {
  smaller : size l.left ≤ size l.fn.from;
  same : each_once l.names (names_read l.left) ≡ each_once l.fn.names (names_read l.fn.from);
}

abbrev pub decreases-add_read-loop-first : goal.decreases-add_read-loop-first
decreases-add_read-loop-first l = size l.left
