use Rattle.std.proofs.Common.{◌≡◌, ◌≤◌, ◌-◌, drop, length}
use Rattle.vd_vectors.specs.Orders.{list_order}
use Rattle.vd_vectors.proofs.lists.order_lists.Given as goal

abbrev pub invariant-loop-i : goal.invariant-loop-i
invariant-loop-i l = record {
  within_left : l.i ≤ length l.left;
  within_right : l.i ≤ length l.right;
  same : list_order (drop l.i l.left) (drop l.i l.right) ≡ list_order l.left l.right;
}

abbrev pub decreases-loop-i : goal.decreases-loop-i
decreases-loop-i l = length l.left - l.i
