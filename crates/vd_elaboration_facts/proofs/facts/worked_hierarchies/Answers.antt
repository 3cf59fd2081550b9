use Rattle.vd_elaboration_facts.proofs.Computed.{hierarchies}
use Rattle.vd_elaboration_facts.proofs.facts.worked_hierarchies.Goals as goal

pub returns : goal.returns
returns c = hierarchies
