use Rattle.std.proofs.Common.{◌≡◌, ◌≤◌, length}
use Rattle.vd_forest.specs.Forest.{nothing}
use Rattle.vd_forest.specs.Store.{at, Extends}
use Rattle.vd_lowering.specs.Conditions.{any_choice}
use Rattle.vd_lowering.proofs.operators.Operators.any_choice.Given as goal

abbrev pub invariant-loop-left : goal.invariant-loop-left
invariant-loop-left l = record {
  left_in : l.left ≤ length l.out;
  found_in : l.found ≤ length l.out;
  extends : Extends l.fn.out l.out;
  same : any_choice l.self.rows.items l.place (at l.fn.out l.selector) (at l.out l.found) (at l.out l.left)
      ≡ any_choice l.self.rows.items l.place (at l.fn.out l.selector) nothing (at l.fn.out l.choices);
}

abbrev pub decreases-loop-left : goal.decreases-loop-left
decreases-loop-left l = l.left
