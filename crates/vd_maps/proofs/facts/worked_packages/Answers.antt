use Rattle.vd_maps.proofs.Computed.{packages}
use Rattle.vd_maps.proofs.facts.worked_packages.Goals as goal

pub returns : goal.returns
returns c = packages
