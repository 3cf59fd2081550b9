use Rattle.vd_package_facts.proofs.Computed.{views}
use Rattle.vd_package_facts.proofs.facts.views_show.Goals as goal

pub returns : goal.returns
returns c = views
