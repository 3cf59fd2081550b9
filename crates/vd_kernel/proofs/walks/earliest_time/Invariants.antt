use Rattle.std.proofs.Common.{◌≡◌, take}
use Rattle.std.specs.Prelude.{flat_map}
use Rattle.vd_kernel.specs.Cycles.{times, least}
use Rattle.vd_kernel.proofs.walks.earliest_time.Given as goal

abbrev pub invariant-loop-driver : goal.invariant-loop-driver
invariant-loop-driver l = l.earliest ≡ least (flat_map times (take l.driver-index l.drivers))
