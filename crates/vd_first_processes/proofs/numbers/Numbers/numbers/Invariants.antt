use Rattle.std.proofs.Common.{◌≡◌, map, take}
use Rattle.vd_first_processes.specs.Numbering.{number_in}
use Rattle.vd_first_processes.proofs.numbers.Numbers.numbers.Given as goal

abbrev pub invariant-loop-i : goal.invariant-loop-i
invariant-loop-i l = l.numbers.items ≡ map (number_in l.self) (take l.i l.names)
