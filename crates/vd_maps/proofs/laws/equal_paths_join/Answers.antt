use Rattle.vd_maps.proofs.Staying.{equal_paths, equal_scopes}
use Rattle.vd_maps.proofs.laws.equal_paths_join.Goals as goal

pub returns-clause-paths : goal.returns-clause-paths
returns-clause-paths c = equal_paths

pub returns-clause-scopes : goal.returns-clause-scopes
returns-clause-scopes c = equal_scopes
