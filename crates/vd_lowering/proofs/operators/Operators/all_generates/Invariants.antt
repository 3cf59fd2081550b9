use Rattle.std.proofs.Common.{◌≡◌, ◌≤◌, length}
use Rattle.vd_forest.specs.Forest.{nothing, text_of, turned}
use Rattle.vd_forest.specs.Store.{at, Extends}
use Rattle.vd_lowering.specs.Generates.{all_generates}
use Rattle.vd_lowering.proofs.operators.Operators.all_generates.Given as goal

abbrev pub invariant-loop-left : goal.invariant-loop-left
invariant-loop-left l = record {
  left_in : l.left ≤ length l.out;
  earlier_in : l.earlier ≤ length l.out;
  made_in : l.made ≤ length l.out;
  extends : Extends l.fn.out l.out;
  same : turned (at l.out l.made) (all_generates l.self.rows.items l.node.form l.node.text.now l.node.place (text_of l.node.parts) (at l.fn.out l.label) (at l.out l.earlier) (at l.out l.left) (at l.fn.out l.next))
      ≡ all_generates l.self.rows.items l.node.form l.node.text.now l.node.place (text_of l.node.parts) (at l.fn.out l.label) nothing (at l.fn.out l.branches) (at l.fn.out l.next);
}

abbrev pub decreases-loop-left : goal.decreases-loop-left
decreases-loop-left l = l.left
