use Rattle.std.proofs.Common.{◌≡◌}
use Rattle.vd_body_rules.proofs.likeness.same_trees.Given as goal
use Rattle.vd_body_rules.specs.Items.{first_trees}
use Rattle.vd_value_rules.specs.Bodies.{all_say_same}

abbrev pub invariant-loop-left : goal.invariant-loop-left
invariant-loop-left l =
    all_say_same l.pairs (first_trees l.left l.f) (first_trees l.other l.g) ≡ all_say_same l.pairs (first_trees l.x.count l.x.trees) (first_trees l.y.count l.y.trees)

abbrev pub decreases-loop-left : goal.decreases-loop-left
decreases-loop-left l = l.left
