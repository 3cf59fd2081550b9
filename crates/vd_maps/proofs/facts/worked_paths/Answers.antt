use Rattle.vd_maps.proofs.Computed.{paths}
use Rattle.vd_maps.proofs.facts.worked_paths.Goals as goal

pub returns : goal.returns
returns c = paths
