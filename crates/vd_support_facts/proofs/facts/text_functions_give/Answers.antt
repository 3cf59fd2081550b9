use Rattle.vd_support_facts.proofs.Computed.{texts}
use Rattle.vd_support_facts.proofs.facts.text_functions_give.Goals as goal

pub returns : goal.returns
returns c = texts
