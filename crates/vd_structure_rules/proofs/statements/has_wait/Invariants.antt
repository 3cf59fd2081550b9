use Rattle.std.proofs.Common.{◌≡◌}
use Rattle.vd_forest.specs.Forest.{tree_count}
use Rattle.vd_structure_rules.specs.Statements.{has_wait}
use Rattle.vd_structure_rules.proofs.statements.has_wait.Given as goal

abbrev pub invariant-loop-first : goal.invariant-loop-first
invariant-loop-first l = has_wait l.rest ≡ has_wait l.statements

abbrev pub decreases-loop-first : goal.decreases-loop-first
decreases-loop-first l = tree_count l.rest
