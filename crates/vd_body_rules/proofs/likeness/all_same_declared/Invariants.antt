use Rattle.std.proofs.Common.{◌≡◌, ◌-◌, ◌≤◌, drop, length}
use Rattle.vd_body_rules.proofs.likeness.all_same_declared.Given as goal
use Rattle.vd_body_rules.specs.Items.{items_of}
use Rattle.vd_value_rules.specs.Bodies.{all_same_declared}

abbrev pub invariant-loop-k : goal.invariant-loop-k
invariant-loop-k l = record {
  in_one : l.k ≤ length l.xs;
  in_other : l.k ≤ length l.ys;
  same : all_same_declared l.pairs (items_of (drop l.k l.xs)) (items_of (drop l.k l.ys)) ≡ all_same_declared l.pairs (items_of l.xs) (items_of l.ys);
}

abbrev pub decreases-loop-k : goal.decreases-loop-k
decreases-loop-k l = length l.xs - l.k
