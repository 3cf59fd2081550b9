use Rattle.std.proofs.Common.{◌≡◌, []}
use Rattle.vd_forest.specs.Forest.{size}
use Rattle.vd_first_elaboration.specs.Expressions.{each_once}
use Rattle.vd_first_elaboration.specs.Processes.{names_assigned}
use Rattle.vd_first_processes.proofs.resolution.names_of_values.Given as goal

abbrev pub invariant-loop-first : goal.invariant-loop-first
invariant-loop-first l = each_once l.names (names_assigned l.left) ≡ each_once [] (names_assigned l.statements)

abbrev pub decreases-loop-first : goal.decreases-loop-first
decreases-loop-first l = size l.left
