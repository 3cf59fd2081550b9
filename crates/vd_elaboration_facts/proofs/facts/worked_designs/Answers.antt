use Rattle.vd_elaboration_facts.proofs.Computed.{designs}
use Rattle.vd_elaboration_facts.proofs.facts.worked_designs.Goals as goal

pub returns : goal.returns
returns c = designs
