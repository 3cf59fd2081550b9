use Rattle.vd_maps.proofs.Traces.{runs_give_traces}
use Rattle.vd_maps.proofs.laws.runs_give_traces.Goals as goal

pub returns : goal.returns
returns c = runs_give_traces
