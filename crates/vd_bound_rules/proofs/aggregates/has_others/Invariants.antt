use Rattle.std.proofs.Common.{◌≡◌}
use Rattle.vd_forest.specs.Forest.{tree_count}
use Rattle.vd_value_rules.specs.Aggregates.{has_others_element}
use Rattle.vd_bound_rules.proofs.aggregates.has_others.Given as goal

abbrev pub invariant-loop-first : goal.invariant-loop-first
invariant-loop-first l = has_others_element l.rest ≡ has_others_element l.elements

abbrev pub decreases-loop-first : goal.decreases-loop-first
decreases-loop-first l = tree_count l.rest
