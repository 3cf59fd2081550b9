use Rattle.std.proofs.Common.{drop, ◌++◌, ◌≡◌}
use Rattle.vd_static_values.specs.Operands.{stopping}
use Rattle.vd_static_values.proofs.operating.with_stops.Given as goal

abbrev pub invariant-loop-operand : goal.invariant-loop-operand
invariant-loop-operand l = l.made.items ++ stopping (drop l.operand-index l.operands) ≡ stopping l.operands
