use Rattle.vd_maps.proofs.Composed.{runs_compose, joins_compose}
use Rattle.vd_maps.proofs.laws.maps_compose.Goals as goal

pub returns-clause-runs : goal.returns-clause-runs
returns-clause-runs c = runs_compose

pub returns-clause-signals : goal.returns-clause-signals
returns-clause-signals c = joins_compose
