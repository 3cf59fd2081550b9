use Rattle.vd_support_facts.proofs.Computed.{shifts}
use Rattle.vd_support_facts.proofs.facts.shifts_give.Goals as goal

pub returns : goal.returns
returns c = shifts
