use Rattle.std.proofs.Common.{◌≡◌, take, map}
use Rattle.vd_kernel.specs.Simulated.{first_history}
use Rattle.vd_kernel.proofs.beginnings.first_histories.Given as goal

abbrev pub invariant-loop-value : goal.invariant-loop-value
invariant-loop-value l = l.histories.items ≡ map first_history (take l.value-index l.values)
