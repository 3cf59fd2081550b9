use Rattle.vd_maps.proofs.Computed.{views}
use Rattle.vd_maps.proofs.facts.worked_views.Goals as goal

pub returns : goal.returns
returns c = views
