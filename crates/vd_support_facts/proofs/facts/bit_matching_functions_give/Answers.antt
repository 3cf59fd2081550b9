use Rattle.vd_support_facts.proofs.Computed.{bit_matching}
use Rattle.vd_support_facts.proofs.facts.bit_matching_functions_give.Goals as goal

pub returns : goal.returns
returns c = bit_matching
