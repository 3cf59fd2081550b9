use Rattle.std.proofs.Common.{◌≡◌}
use Rattle.vd_forest.specs.Forest.{tree_count}
use Rattle.vd_walks.specs.Least.{lesser, least_of, refusals}
use Rattle.vd_structure_rules.specs.Choices.{early_others}
use Rattle.vd_structure_rules.proofs.choices.early_others.Given as goal

abbrev pub invariant-loop-first : goal.invariant-loop-first
invariant-loop-first l = lesser l.found (least_of (refusals (early_others l.rest))) ≡ least_of (refusals (early_others l.parts))

abbrev pub decreases-loop-first : goal.decreases-loop-first
decreases-loop-first l = tree_count l.rest
