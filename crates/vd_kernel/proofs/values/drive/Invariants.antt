use Rattle.std.proofs.Common.{ℕ}
use Rattle.vd_values.specs.declared.scalar.Scalar.{Scalar}
use Rattle.vd_kernel.specs.SignalValues.{AreDriving}
use Rattle.vd_kernel.proofs.SettledValues.{AreSettled}
use Rattle.vd_kernel.proofs.values.drive.Given as goal

abbrev pub invariant-loop-k : goal.invariant-loop-k
invariant-loop-k l =
    (own : ℕ → Scalar) → AreDriving l.signals l.drivers own → AreSettled l.values own l.inner_first l.k
