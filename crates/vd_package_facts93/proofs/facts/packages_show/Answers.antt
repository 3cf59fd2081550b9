use Rattle.vd_package_facts93.proofs.Computed.{packages}
use Rattle.vd_package_facts93.proofs.facts.packages_show.Goals as goal

pub returns : goal.returns
returns c = packages
