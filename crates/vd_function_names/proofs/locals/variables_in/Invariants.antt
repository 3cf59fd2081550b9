use Rattle.std.proofs.Common.{◌≡◌, ◌++◌}
use Rattle.vd_forest.specs.Forest.{tree_count}
use Rattle.vd_function_names.proofs.locals.variables_in.Given as goal
use Rattle.vd_value_rules.specs.Designs.{Design}
use Rattle.vd_value_rules.specs.Standings.{variables_in}

abbrev pub invariant-loop-item : goal.invariant-loop-item
invariant-loop-item l = (d : Design) → l.found.items ++ variables_in d l.rest ≡ variables_in d l.items

abbrev pub decreases-loop-item : goal.decreases-loop-item
decreases-loop-item l = tree_count l.rest
