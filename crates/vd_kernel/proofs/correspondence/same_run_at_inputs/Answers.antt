use Rattle.vd_kernel.proofs.AtInputs.{same_run_at_inputs as run_of}
use Rattle.vd_kernel.proofs.correspondence.same_run_at_inputs.Goals as goal

pub returns : goal.returns
returns g _ = let t = g.T.Correspondence in λ c. run_of (t.joined c)
