use Rattle.std.proofs.Common.{◌≤◌, length}
use Rattle.vd_forest.specs.Forest.{size}
use Rattle.vd_forest.specs.Store.{Extends}
use Rattle.vd_visible_names.proofs.writer.Writer.turned_names.Given as goal

abbrev pub invariant-loop-node : goal.invariant-loop-node
invariant-loop-node l = record {
  within : l.made ≤ length l.out;
  extends : Extends l.fn.out l.out;
}

abbrev pub decreases-loop-node : goal.decreases-loop-node
decreases-loop-node l = size l.left
