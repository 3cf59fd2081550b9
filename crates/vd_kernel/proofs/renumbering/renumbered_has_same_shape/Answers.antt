use Rattle.vd_kernel.proofs.Renumbered.{same_shape}
use Rattle.vd_kernel.proofs.renumbering.renumbered_has_same_shape.Goals as goal

pub returns : goal.returns
returns _ = same_shape
