use Rattle.vd_first_correspondence.proofs.FileRunLemmas.{flavour_keeps_run}
use Rattle.vd_first_correspondence.proofs.laws.flavour_keeps_run.Goals as goal

pub returns : goal.returns
returns c = flavour_keeps_run
