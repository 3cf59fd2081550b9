use Rattle.std.proofs.Common.{◌≡◌, drop}
use Rattle.vd_first_runs.specs.Shapes.{connected}
use Rattle.vd_first_runs.proofs.shapes.connect.Given as goal

abbrev pub invariant-loop-driver : goal.invariant-loop-driver
invariant-loop-driver l = connected l.driver (drop l.driver l.driven) l.scalars.items ≡ connected 0 l.driven l.fn.scalars.items
