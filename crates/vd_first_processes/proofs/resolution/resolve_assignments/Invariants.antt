use Rattle.std.proofs.Common.{◌≡◌, ◌++◌}
use Rattle.vd_forest.specs.Forest.{size}
use Rattle.vd_first_processes.specs.Numbering.{number_in}
use Rattle.vd_first_processes.specs.Resolved.{resolved_assignments}
use Rattle.vd_first_processes.proofs.resolution.resolve_assignments.Given as goal

abbrev pub invariant-loop-first : goal.invariant-loop-first
invariant-loop-first l =
    l.assignments.items ++ resolved_assignments (number_in l.numbers) l.first_driver l.targets l.left ≡ resolved_assignments (number_in l.numbers) l.first_driver l.targets l.statements

abbrev pub decreases-loop-first : goal.decreases-loop-first
decreases-loop-first l = size l.left
