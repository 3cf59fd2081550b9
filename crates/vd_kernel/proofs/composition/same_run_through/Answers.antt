use Rattle.vd_kernel.proofs.ThroughRuns.{run_through}
use Rattle.vd_kernel.proofs.composition.same_run_through.Goals as goal

pub returns : goal.returns
returns g _ = let t = g.T.Composition in λ c. run_through (t.first_join c) (t.second_join c)
