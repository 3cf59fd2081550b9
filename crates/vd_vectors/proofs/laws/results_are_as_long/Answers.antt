use Rattle.vd_vectors.proofs.ListLemmas.{combined_long}
use Rattle.vd_vectors.proofs.ShiftLemmas.{shifts_long}
use Rattle.vd_vectors.proofs.laws.results_are_as_long.Goals as goal

pub returns : goal.returns
returns c = record { logical = combined_long; shifts = shifts_long }
