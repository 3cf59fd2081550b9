use Rattle.std.proofs.Common.{◌≡◌, take, map, string_bytes}
use Rattle.vd_program.specs.Dues.{read_fault}
use Rattle.vd_program.proofs.performing.fault_lines.Given as goal

abbrev pub invariant-loop-name : goal.invariant-loop-name
invariant-loop-name l = map string_bytes l.lines.items ≡ map (λ name. (read_fault (string_bytes name)).console) (take l.name-index l.names)
