use Rattle.vd_maps.proofs.Elaborated.{elaborations_compose, elaborations_join_all}
use Rattle.vd_maps.proofs.laws.elaborations_compose.Goals as goal

pub returns-clause-runs : goal.returns-clause-runs
returns-clause-runs c = elaborations_compose

pub returns-clause-signals : goal.returns-clause-signals
returns-clause-signals c = elaborations_join_all
