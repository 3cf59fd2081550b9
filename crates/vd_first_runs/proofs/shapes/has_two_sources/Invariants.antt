use Rattle.std.proofs.Common.{◌≡◌, take, None}
use Rattle.vd_kernel.specs.Traces.{with_two}
use Rattle.vd_first_runs.proofs.shapes.has_two_sources.Given as goal

abbrev pub invariant-loop-scalar : goal.invariant-loop-scalar
invariant-loop-scalar l = with_two 0 (take l.scalar-index l.scalars) ≡ None
