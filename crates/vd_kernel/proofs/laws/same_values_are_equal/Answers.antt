use Rattle.vd_kernel.proofs.MarkedWaveforms.{same_value_is_equal}
use Rattle.vd_kernel.proofs.laws.same_values_are_equal.Goals as goal

pub returns : goal.returns
returns _ = same_value_is_equal
