use Rattle.std.proofs.Common.{◌≡◌, take, map}
use Rattle.vd_kernel.specs.Simulated.{idle}
use Rattle.vd_kernel.proofs.beginnings.idle_drivers.Given as goal

abbrev pub invariant-loop-shape : goal.invariant-loop-shape
invariant-loop-shape l = l.drivers.items ≡ map idle (take l.shape-index l.shapes)
