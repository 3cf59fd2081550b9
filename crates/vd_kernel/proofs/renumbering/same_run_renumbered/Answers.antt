use Rattle.vd_kernel.proofs.Renumbered.{same_renumbered}
use Rattle.vd_kernel.proofs.renumbering.same_run_renumbered.Goals as goal

pub returns : goal.returns
returns g _ = λ f. same_renumbered f
