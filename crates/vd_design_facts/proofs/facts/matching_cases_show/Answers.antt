use Rattle.vd_design_facts.proofs.Computed.{matching}
use Rattle.vd_design_facts.proofs.facts.matching_cases_show.Goals as goal

pub returns : goal.returns
returns c = matching
