use Rattle.std.proofs.Common.{ℕ}
use Rattle.vd_values.specs.declared.scalar.Scalar.{Scalar}
use Rattle.vd_kernel.specs.SignalValues.{AreEffective, Hold}
use Rattle.vd_kernel.proofs.SettledValues.{AreSettled}
use Rattle.vd_kernel.proofs.values.spread.Given as goal

abbrev pub invariant-loop-k : goal.invariant-loop-k
invariant-loop-k l =
    (own outer : ℕ → Scalar) → AreEffective l.signals own outer → Hold l.driving own → AreSettled l.values outer l.outer_first l.k
