use Rattle.vd_kernel.proofs.MarkedWaveforms.{follows_the_standard}
use Rattle.vd_kernel.proofs.laws.assignments_follow_the_standard.Goals as goal

pub returns : goal.returns
returns _ = follows_the_standard
