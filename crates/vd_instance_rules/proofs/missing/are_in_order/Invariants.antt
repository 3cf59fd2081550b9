use Rattle.std.proofs.Common.{◌≡◌, false}
use Rattle.vd_forest.specs.Forest.{tree_count}
use Rattle.vd_value_rules.specs.Actuals.{are_in_order}
use Rattle.vd_instance_rules.proofs.missing.are_in_order.Given as goal

abbrev pub invariant-loop-first : goal.invariant-loop-first
invariant-loop-first l = are_in_order l.are_named l.rest ≡ are_in_order false l.elements

abbrev pub decreases-loop-first : goal.decreases-loop-first
decreases-loop-first l = tree_count l.rest
