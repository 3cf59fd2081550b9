use Rattle.vd_support_facts.proofs.Computed.{reductions}
use Rattle.vd_support_facts.proofs.facts.reductions_give.Goals as goal

pub returns : goal.returns
returns c = reductions
