use Rattle.std.proofs.Common.{◌≡◌, ◌++◌, drop, take, map}
use Rattle.vd_kernel.specs.Drivers.{advanced}
use Rattle.vd_kernel.proofs.walks.update_all.Given as goal

abbrev pub invariant-loop-i : goal.invariant-loop-i
invariant-loop-i l =
    take l.i l.drivers ++ map (advanced l.time) (drop l.i l.drivers) ≡ map (advanced l.time) l.fn.drivers
