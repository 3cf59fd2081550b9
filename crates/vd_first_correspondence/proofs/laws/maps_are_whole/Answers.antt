use Rattle.vd_first_correspondence.proofs.FileLemmas.{map_whole}
use Rattle.vd_first_correspondence.proofs.laws.maps_are_whole.Goals as goal

pub returns : goal.returns
returns c = map_whole
