use Rattle.vd_maps.proofs.Itself.{same_design, distinct_paths}
use Rattle.vd_maps.proofs.laws.same_design_has_same_run.Goals as goal

pub returns-clause-runs : goal.returns-clause-runs
returns-clause-runs c = same_design

pub returns-clause-paths : goal.returns-clause-paths
returns-clause-paths c = distinct_paths
