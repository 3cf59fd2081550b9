use Rattle.vd_maps.proofs.TopsThere.{tops_are_there}
use Rattle.vd_maps.proofs.laws.tops_are_elaborated.Goals as goal

pub returns : goal.returns
returns c = tops_are_there
