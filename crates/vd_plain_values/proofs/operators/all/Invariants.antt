use Rattle.std.proofs.Common.{◌≡◌, ◌++◌, drop}
use Rattle.std.specs.Prelude.{Ok}
use Rattle.vd_composites.specs.Stops.{◌>>=◌}
use Rattle.vd_plain_values.specs.Operands.{all_found}
use Rattle.vd_plain_values.proofs.operators.all.Given as goal

abbrev pub invariant-loop-operand : goal.invariant-loop-operand
invariant-loop-operand l = (all_found (drop l.operand-index l.operands) >>= λ xs. Ok (l.values.items ++ xs)) ≡ all_found l.operands
