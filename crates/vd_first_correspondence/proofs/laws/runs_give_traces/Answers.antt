use Rattle.vd_first_correspondence.proofs.TraceLemmas.{runs_give_traces}
use Rattle.vd_first_correspondence.proofs.laws.runs_give_traces.Goals as goal

pub returns : goal.returns
returns c = runs_give_traces
