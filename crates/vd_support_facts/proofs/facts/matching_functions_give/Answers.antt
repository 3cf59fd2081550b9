use Rattle.vd_support_facts.proofs.Computed.{matching}
use Rattle.vd_support_facts.proofs.facts.matching_functions_give.Goals as goal

pub returns : goal.returns
returns c = matching
