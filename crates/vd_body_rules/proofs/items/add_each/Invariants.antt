use Rattle.std.proofs.Common.{◌≡◌, ◌++◌, ◌-◌, drop, length}
use Rattle.vd_body_rules.proofs.items.add_each.Given as goal
use Rattle.vd_body_rules.specs.Items.{first_trees, items_of}
use Rattle.vd_value_rules.specs.Bodies.{each_declared}

abbrev pub invariant-loop-k : goal.invariant-loop-k
invariant-loop-k l =
    items_of l.found.items ++ each_declared l.form (drop l.k l.names) (drop l.k l.numbers) (first_trees l.count l.trees)
    ≡ items_of l.initial.found.items ++ each_declared l.form l.names l.numbers (first_trees l.count l.trees)

abbrev pub decreases-loop-k : goal.decreases-loop-k
decreases-loop-k l = length l.names - l.k
