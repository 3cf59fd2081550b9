use Rattle.vd_first_correspondence.proofs.FileRunLemmas.{writing_keeps_run}
use Rattle.vd_first_correspondence.proofs.laws.writing_keeps_run.Goals as goal

pub returns : goal.returns
returns c = writing_keeps_run
