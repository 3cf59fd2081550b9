use Rattle.vd_kernel.proofs.OwnRuns.{corresponds_with_itself}
use Rattle.vd_kernel.proofs.examples.worked_correspondence.Goals as goal

pub returns : goal.returns
returns c = λ m. c.same_run.ensures tt m m (corresponds_with_itself m)
