use Rattle.std.proofs.Common.{◌≡◌, None}
use Rattle.vd_forest.specs.Forest.{tree_count}
use Rattle.vd_structure_rules.specs.Functions.{last_behind}
use Rattle.vd_structure_rules.proofs.functions.last_number.Given as goal

abbrev pub invariant-loop-first : goal.invariant-loop-first
invariant-loop-first l = last_behind l.last l.rest ≡ last_behind None l.pieces

abbrev pub decreases-loop-first : goal.decreases-loop-first
decreases-loop-first l = tree_count l.rest
