use Rattle.std.proofs.Common.{◌≡◌, [], replicate}
use Rattle.vd_first_runs.specs.Shapes.{plain_signal}
use Rattle.vd_first_runs.proofs.shapes.undriven.Given as goal

abbrev pub invariant-loop : goal.invariant-loop
invariant-loop l = l.scalars.items ≡ replicate l.counter (plain_signal [])
