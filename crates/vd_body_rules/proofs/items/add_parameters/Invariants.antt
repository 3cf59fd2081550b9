use Rattle.std.proofs.Common.{◌≡◌, ◌++◌}
use Rattle.vd_body_rules.proofs.items.add_parameters.Given as goal
use Rattle.vd_body_rules.specs.Items.{items_of}
use Rattle.vd_forest.specs.Forest.{tree_count}
use Rattle.vd_value_rules.specs.Bodies.{parameters_in}
use Rattle.vd_value_rules.specs.Designs.{Design}

abbrev pub invariant-loop-first : goal.invariant-loop-first
invariant-loop-first l = (d : Design) → items_of l.found.items ++ parameters_in d l.rest ≡ items_of l.initial.found.items ++ parameters_in d l.parameters

abbrev pub decreases-loop-first : goal.decreases-loop-first
decreases-loop-first l = tree_count l.rest
