use Rattle.vd_package_facts93.proofs.Computed.{matching}
use Rattle.vd_package_facts93.proofs.facts.matching_cases_show.Goals as goal

pub returns : goal.returns
returns c = matching
