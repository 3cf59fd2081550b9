use Rattle.vd_meaning_facts.proofs.Computed.{targets}
use Rattle.vd_meaning_facts.proofs.facts.worked_targets.Goals as goal

pub returns : goal.returns
returns c = targets
