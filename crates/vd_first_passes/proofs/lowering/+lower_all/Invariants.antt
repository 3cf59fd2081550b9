use Rattle.std.proofs.Common.{◌≡◌, ◌≤◌, length}
use Rattle.vd_forest.specs.Forest.{size, turned}
use Rattle.vd_forest.specs.Store.{at, Extends}
use Rattle.vd_first_passes.specs.Lowering.{lowered}
use Rattle.vd_first_passes.proofs.lowering.+lower_all.Given as goal

abbrev pub decreases-lower_all : goal.decreases-lower_all
decreases-lower_all l = size l.from.now

abbrev pub invariant-loop-first : goal.invariant-loop-first
invariant-loop-first l = record {
  smaller : size l.left ≤ size l.fn.from;
  made_in : l.made ≤ length l.out;
  extends : Extends l.fn.out l.out;
  same : turned (at l.out l.made) (lowered l.left) ≡ lowered l.fn.from;
}

abbrev pub decreases-loop-first : goal.decreases-loop-first
decreases-loop-first l = size l.left
