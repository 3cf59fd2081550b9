use Rattle.vd_modes.specs.Sameness.{work}
use Rattle.vd_modes.proofs.sameness.are_same.Given as goal

abbrev pub decreases-loop-pair : goal.decreases-loop-pair
decreases-loop-pair l = work l.round.items
