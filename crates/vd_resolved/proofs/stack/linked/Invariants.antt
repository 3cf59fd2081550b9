use Rattle.std.proofs.Common.{◌≤◌, length, map, drop}
use Rattle.vd_forest.specs.Store.{at, Holds, Extends}
use Rattle.vd_resolved.specs.Trees.{side_by_side}
use Rattle.vd_resolved.specs.Stacks.{AreTrees}
use Rattle.vd_resolved.proofs.stack.linked.Given as goal

abbrev pub invariant-loop-left : goal.invariant-loop-left
invariant-loop-left l = record {
  below : l.from ≤ l.left;
  within : l.left ≤ length l.numbers;
  trees : AreTrees l.store l.numbers;
  extends : Extends l.fn.store l.store;
  holds : Holds l.store l.made (side_by_side (drop l.left (map (at l.fn.store) l.numbers)));
}

abbrev pub decreases-loop-left : goal.decreases-loop-left
decreases-loop-left l = l.left
