use Rattle.std.proofs.Common.{◌≡◌, ◌≤◌, length}
use Rattle.vd_forest.specs.Forest.{turned}
use Rattle.vd_forest.specs.Store.{at, Extends}
use Rattle.vd_lowering.specs.Conditionals.{elsifs, last_value}
use Rattle.vd_lowering.proofs.assignments.Statement.chain.Given as goal

abbrev pub invariant-loop-out : goal.invariant-loop-out
invariant-loop-out l = record {
  left_in : l.left ≤ length l.out;
  made_in : l.made ≤ length l.out;
  extends : Extends l.fn.out l.out;
  branches : turned (at l.out l.made) (elsifs l.self.to l.self.node l.self.place (at l.fn.out l.self.parts) 0 (at l.out l.left))
      ≡ elsifs l.self.to l.self.node l.self.place (at l.fn.out l.self.parts) 2 (at l.fn.out l.values);
  last : last_value 0 (at l.out l.left) ≡ last_value 2 (at l.fn.out l.values);
}

abbrev pub decreases-loop-out : goal.decreases-loop-out
decreases-loop-out l = l.left
