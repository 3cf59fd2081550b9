use Rattle.vd_kernel.proofs.SameRuns.{same_steps as steps_of}
use Rattle.vd_kernel.proofs.correspondence.same_steps.Goals as goal

pub returns : goal.returns
returns g _ = let t = g.T.Correspondence in λ c. steps_of (t.joined c) (t.related c)
