use Rattle.std.proofs.Common.{◌≡◌}
use Rattle.vd_forest.specs.Forest.{tree_count}
use Rattle.vd_value_rules.specs.Choices.{ends_in_conversion}
use Rattle.vd_value_rules.specs.Designs.{Design}
use Rattle.vd_choice_rules.proofs.selectors.ends_in_conversion.Given as goal

abbrev pub invariant-loop-first : goal.invariant-loop-first
invariant-loop-first l = (d : Design) → ends_in_conversion d l.rest ≡ ends_in_conversion d l.pieces

abbrev pub decreases-loop-first : goal.decreases-loop-first
decreases-loop-first l = tree_count l.rest
