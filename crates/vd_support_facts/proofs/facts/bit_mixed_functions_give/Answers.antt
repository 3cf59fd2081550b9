use Rattle.vd_support_facts.proofs.Computed.{bit_mixed}
use Rattle.vd_support_facts.proofs.facts.bit_mixed_functions_give.Goals as goal

pub returns : goal.returns
returns c = bit_mixed
