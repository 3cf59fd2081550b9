use Rattle.std.proofs.Common.{◌≤◌, drop, length}
use Rattle.vd_port_associations.specs.Numbers.{Holds}
use Rattle.vd_port_associations.proofs.numbers.NumberSet.of.Given as goal

abbrev pub invariant-loop-left : goal.invariant-loop-left
invariant-loop-left l = record {
  within : l.left ≤ length l.fn.numbers;
  put : Holds l.set (drop l.left l.fn.numbers);
}

abbrev pub decreases-loop-left : goal.decreases-loop-left
decreases-loop-left l = l.left
