use Rattle.std.proofs.Common.{◌≡◌, ◌<◌, ◌≤◌, length}
use Rattle.vd_forest.specs.Forest.{skipped}
use Rattle.vd_forest.specs.Store.{at}
use Rattle.vd_static_names.proofs.jumps.jump_over.Given as goal

abbrev pub invariant-loop-left : goal.invariant-loop-left
invariant-loop-left l = record {
  within : l.here ≤ length l.store;
  jump_in : l.here < length l.jumps;
  is : skipped l.left (at l.store l.here) ≡ skipped l.fn.count (at l.store l.fn.number);
}

abbrev pub decreases-loop-left : goal.decreases-loop-left
decreases-loop-left l = l.left
