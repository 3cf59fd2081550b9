use Rattle.vd_named_designs.proofs.Computed.{weights}
use Rattle.vd_named_designs.proofs.facts.weights.Goals as goal

pub returns : goal.returns
returns c = weights
