use Rattle.std.proofs.Common.{◌≡◌, ◌≤◌, length}
use Rattle.vd_forest.specs.Forest.{turned}
use Rattle.vd_forest.specs.Store.{at, Extends}
use Rattle.vd_name_rows.specs.Entering.{numbered}
use Rattle.vd_name_declaring.proofs.literals.numbered.Given as goal

abbrev pub invariant-loop-left : goal.invariant-loop-left
invariant-loop-left l = record {
  left_in : l.left ≤ length l.out;
  made_in : l.made ≤ length l.out;
  is : turned (at l.out l.made) (numbered l.number (at l.out l.left)) ≡ numbered l.fn.first (at l.fn.out l.fn.list);
  extends : Extends l.fn.out l.out;
}

abbrev pub decreases-loop-left : goal.decreases-loop-left
decreases-loop-left l = l.left
