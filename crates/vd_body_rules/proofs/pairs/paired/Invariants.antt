use Rattle.std.proofs.Common.{◌≡◌, ◌++◌, ◌-◌, drop, length}
use Rattle.vd_body_rules.proofs.pairs.paired.Given as goal
use Rattle.vd_body_rules.specs.Items.{items_of}
use Rattle.vd_value_rules.specs.Bodies.{numbers_paired}

abbrev pub invariant-loop-k : goal.invariant-loop-k
invariant-loop-k l = l.pairs ++ numbers_paired (items_of (drop l.k l.xs)) (items_of (drop l.k l.ys)) ≡ numbers_paired (items_of l.xs) (items_of l.ys)

abbrev pub decreases-loop-k : goal.decreases-loop-k
decreases-loop-k l = length l.xs - l.k
