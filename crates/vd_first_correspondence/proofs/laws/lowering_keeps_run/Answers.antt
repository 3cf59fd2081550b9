use Rattle.vd_first_correspondence.proofs.FileRunLemmas.{lowering_keeps_run}
use Rattle.vd_first_correspondence.proofs.laws.lowering_keeps_run.Goals as goal

pub returns : goal.returns
returns c = lowering_keeps_run
