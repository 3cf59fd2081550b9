use Rattle.std.proofs.Common.{◌≡◌, map, take}
use Rattle.vd_simulation.specs.Turns.{view_of}
use Rattle.vd_first_processes.specs.Resolved.{assigned}
use Rattle.vd_first_processes.proofs.processes.assign_all.Given as goal

abbrev pub invariant-loop-assignment : goal.invariant-loop-assignment
invariant-loop-assignment l =
    l.made.items ≡ map (assigned (view_of l.seen)) (take l.assignment-index l.assignments)
