use Rattle.std.proofs.Common.{◌≡◌, ◌++◌, replicate}
use Rattle.vd_first_runs.specs.Shapes.{plain_driver}
use Rattle.vd_first_runs.proofs.shapes.add_drivers.Given as goal

abbrev pub invariant-loop : goal.invariant-loop
invariant-loop l = l.drivers.items ≡ l.fn.drivers.items ++ replicate l.counter plain_driver
