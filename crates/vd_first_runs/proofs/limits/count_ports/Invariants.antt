use Rattle.std.proofs.Common.{◌≡◌, ◌≤◌, ◌+◌, min, length}
use Rattle.vd_forest.specs.Forest.{size}
use Rattle.vd_first_elaboration.specs.Ports.{declared_ports}
use Rattle.vd_first_runs.proofs.limits.count_ports.Given as goal

abbrev pub invariant-loop-first : goal.invariant-loop-first
invariant-loop-first l = record {
  below : l.count ≤ l.most;
  same : min l.most (l.count + length (declared_ports l.left)) ≡ min l.most (length (declared_ports l.declarations));
}

abbrev pub decreases-loop-first : goal.decreases-loop-first
decreases-loop-first l = size l.left
