use Rattle.vd_kernel.proofs.SameRuns.{same_run as run_of}
use Rattle.vd_kernel.proofs.correspondence.same_run.Goals as goal

pub returns : goal.returns
returns g _ = let t = g.T.Correspondence in λ c. run_of (t.joined c) (t.related c)
