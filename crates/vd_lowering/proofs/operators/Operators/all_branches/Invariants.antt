use Rattle.std.proofs.Common.{◌≡◌, ◌≤◌, length}
use Rattle.vd_forest.specs.Forest.{turned}
use Rattle.vd_forest.specs.Store.{at, Extends}
use Rattle.vd_lowering.specs.Generates.{all_branches}
use Rattle.vd_lowering.proofs.operators.Operators.all_branches.Given as goal

abbrev pub invariant-loop-left : goal.invariant-loop-left
invariant-loop-left l = record {
  left_in : l.left ≤ length l.out;
  made_in : l.made ≤ length l.out;
  extends : Extends l.fn.out l.out;
  same : turned (at l.out l.made) (all_branches l.self.rows.items l.place (at l.fn.out l.selector) (at l.out l.left))
      ≡ all_branches l.self.rows.items l.place (at l.fn.out l.selector) (at l.fn.out l.alternatives);
}

abbrev pub decreases-loop-left : goal.decreases-loop-left
decreases-loop-left l = l.left
