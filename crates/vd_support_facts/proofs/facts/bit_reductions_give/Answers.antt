use Rattle.vd_support_facts.proofs.Computed.{bit_reductions}
use Rattle.vd_support_facts.proofs.facts.bit_reductions_give.Goals as goal

pub returns : goal.returns
returns c = bit_reductions
