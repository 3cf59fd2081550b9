use Rattle.std.proofs.Common.{◌≡◌, ◌≤◌, length}
use Rattle.vd_forest.specs.Forest.{turned}
use Rattle.vd_forest.specs.Store.{at, Extends}
use Rattle.vd_lowering.specs.Selections.{alternatives}
use Rattle.vd_lowering.proofs.assignments.Statement.alternatives.Given as goal

abbrev pub invariant-loop-left : goal.invariant-loop-left
invariant-loop-left l = record {
  left_in : l.left ≤ length l.out;
  made_in : l.made ≤ length l.out;
  extends : Extends l.fn.out l.out;
  same : turned (at l.out l.made) (alternatives l.self.to l.self.node l.self.place (at l.fn.out l.self.parts) (at l.out l.left))
      ≡ alternatives l.self.to l.self.node l.self.place (at l.fn.out l.self.parts) (at l.fn.out l.values);
}

abbrev pub decreases-loop-left : goal.decreases-loop-left
decreases-loop-left l = l.left
