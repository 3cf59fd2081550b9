use Rattle.std.proofs.Common.{◌≡◌, ◌++◌, map, length}
use Rattle.vd_forest.specs.Forest.{size}
use Rattle.vd_first_elaboration.specs.Elaboration.{processes_from, driven_names}
use Rattle.vd_first_processes.specs.Numbering.{number_in}
use Rattle.vd_first_processes.specs.Resolved.{resolved}
use Rattle.vd_first_processes.proofs.resolution.resolve_processes.Given as goal

abbrev pub invariant-loop-first : goal.invariant-loop-first
invariant-loop-first l = record {
  driven : l.driven.items ++ map (number_in l.numbers) (driven_names l.left) ≡ map (number_in l.numbers) (driven_names l.from);
  processes : l.processes.items ++ map (resolved (number_in l.numbers)) (processes_from (length l.driven.items) l.left) ≡ map (resolved (number_in l.numbers)) (processes_from 0 l.from);
}

abbrev pub decreases-loop-first : goal.decreases-loop-first
decreases-loop-first l = size l.left
