use Rattle.vd_first_correspondence.proofs.FileRunLemmas.{writing_keeps_traces}
use Rattle.vd_first_correspondence.proofs.laws.writing_keeps_traces.Goals as goal

pub returns : goal.returns
returns c = writing_keeps_traces
