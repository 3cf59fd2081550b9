use Rattle.std.proofs.Common.{◌≡◌, ◌≤◌, ◌++◌}
use Rattle.vd_forest.specs.Store.{at}
use Rattle.vd_rewriting.specs.Folding.{folded}
use Rattle.vd_rewriting.proofs.folding.gather.Given as goal

abbrev pub invariant-loop-left : goal.invariant-loop-left
invariant-loop-left g l = record {
  left_in : l.left ≤ l.number;
  same : l.list.items ++ folded (g.T.Folding.meaning l.by) (at l.store l.left) ≡ folded (g.T.Folding.meaning l.by) (at l.store l.number);
}

abbrev pub decreases-loop-left : goal.decreases-loop-left
decreases-loop-left g l = l.left
