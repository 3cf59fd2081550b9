use Rattle.std.proofs.Common.{arith}
use Rattle.vd_first_processes.proofs.NameLemmas.{number_below}
use Rattle.vd_first_processes.proofs.resolution.resolve_assignments.Goals as goal

pub overflow_add-first_driver : goal.overflow_add-first_driver
overflow_add-first_driver c = omega (arith, number_below c.args.targets.now c.text.result.now, c.number.ensures, c.requires)
