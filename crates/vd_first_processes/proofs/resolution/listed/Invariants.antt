use Rattle.std.proofs.Common.{◌≡◌, ◌++◌, map}
use Rattle.vd_forest.specs.Forest.{size}
use Rattle.vd_first_elaboration.specs.Processes.{names_listed}
use Rattle.vd_first_processes.specs.Numbering.{number_in}
use Rattle.vd_first_processes.proofs.resolution.listed.Given as goal

abbrev pub invariant-loop-first : goal.invariant-loop-first
invariant-loop-first l = l.on.items ++ map (number_in l.numbers) (names_listed l.left) ≡ map (number_in l.numbers) (names_listed l.list)

abbrev pub decreases-loop-first : goal.decreases-loop-first
decreases-loop-first l = size l.left
