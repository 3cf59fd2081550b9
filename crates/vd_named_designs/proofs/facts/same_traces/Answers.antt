use Rattle.vd_named_designs.proofs.Computed.{traces}
use Rattle.vd_named_designs.proofs.facts.same_traces.Goals as goal

pub returns : goal.returns
returns c = traces
