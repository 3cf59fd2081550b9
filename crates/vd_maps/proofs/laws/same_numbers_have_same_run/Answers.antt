use Rattle.vd_maps.proofs.Itself.{same_numbers}
use Rattle.vd_maps.proofs.laws.same_numbers_have_same_run.Goals as goal

pub returns : goal.returns
returns c = same_numbers
