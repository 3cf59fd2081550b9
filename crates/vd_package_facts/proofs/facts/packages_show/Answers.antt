use Rattle.vd_package_facts.proofs.Computed.{packages}
use Rattle.vd_package_facts.proofs.facts.packages_show.Goals as goal

pub returns : goal.returns
returns c = packages
