use Rattle.vd_support_facts.proofs.Computed.{mixed}
use Rattle.vd_support_facts.proofs.facts.mixed_functions_give.Goals as goal

pub returns : goal.returns
returns c = mixed
