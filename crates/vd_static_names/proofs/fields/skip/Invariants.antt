use Rattle.std.proofs.Common.{◌≡◌, ◌≤◌, length}
use Rattle.vd_forest.specs.Forest.{skipped}
use Rattle.vd_forest.specs.Store.{at}
use Rattle.vd_static_names.proofs.fields.skip.Given as goal

abbrev pub invariant-loop-left : goal.invariant-loop-left
invariant-loop-left l = record {
  within : l.here ≤ length l.subtypes;
  is : skipped l.left (at l.subtypes l.here) ≡ skipped l.fn.count (at l.subtypes l.fn.number);
}

abbrev pub decreases-loop-left : goal.decreases-loop-left
decreases-loop-left l = l.left
