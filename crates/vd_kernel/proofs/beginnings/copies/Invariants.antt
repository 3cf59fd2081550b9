use Rattle.std.proofs.Common.{◌≡◌, take}
use Rattle.vd_kernel.proofs.beginnings.copies.Given as goal

abbrev pub invariant-loop-scalar : goal.invariant-loop-scalar
invariant-loop-scalar l = l.signals.items ≡ take l.scalar-index l.scalars
