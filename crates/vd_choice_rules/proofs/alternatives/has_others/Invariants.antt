use Rattle.std.proofs.Common.{◌≡◌}
use Rattle.vd_forest.specs.Forest.{tree_count}
use Rattle.vd_value_rules.specs.Choices.{has_others}
use Rattle.vd_choice_rules.proofs.alternatives.has_others.Given as goal

abbrev pub invariant-loop-first : goal.invariant-loop-first
invariant-loop-first l = has_others l.fn.number l.rest ≡ has_others l.fn.number l.alternatives

abbrev pub decreases-loop-first : goal.decreases-loop-first
decreases-loop-first l = tree_count l.rest
