use Rattle.std.proofs.Common.{◌≡◌, ◌≤◌, length}
use Rattle.vd_forest.specs.Store.{at, Extends}
use Rattle.vd_statements.specs.Words.{each_back, each_of}
use Rattle.vd_statements.proofs.words.each.Given as goal

abbrev pub invariant-loop-left : goal.invariant-loop-left
invariant-loop-left l = record {
  left_in : l.left ≤ length l.out;
  made_in : l.made ≤ length l.out;
  extends : Extends l.fn.out l.out;
  same : each_back l.node.form l.node.text.now l.node.place l.count (at l.fn.out l.parts) (at l.out l.left) (at l.out l.made)
      ≡ each_of l.node.form l.node.text.now l.node.place l.count (at l.fn.out l.parts) (at l.fn.out l.next);
}

abbrev pub decreases-loop-left : goal.decreases-loop-left
decreases-loop-left l = l.left
