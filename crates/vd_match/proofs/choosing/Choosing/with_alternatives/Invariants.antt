use Rattle.std.proofs.Common.{◌≤◌, length}
use Rattle.vd_forest.specs.Store.{Extends}
use Rattle.vd_match.proofs.choosing.Choosing.with_alternatives.Given as goal

abbrev pub invariant-loop-left : goal.invariant-loop-left
invariant-loop-left l = record {
  left_in : l.left ≤ length l.out;
  first_in : l.made.first ≤ length l.out;
  further_in : l.made.further ≤ length l.out;
  other_in : l.made.other ≤ length l.out;
  extends : Extends l.fn.out l.out;
}

abbrev pub decreases-loop-left : goal.decreases-loop-left
decreases-loop-left l = l.left
