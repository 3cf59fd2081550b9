use Rattle.std.proofs.Common.{◌≡◌, ◌++◌, map}
use Rattle.vd_forest.specs.Forest.{size}
use Rattle.vd_first_elaboration.specs.Ports.{declared_ports}
use Rattle.vd_first_elaboration.specs.Elaboration.{port_names}
use Rattle.vd_first_runs.specs.Places.{path_at}
use Rattle.vd_first_runs.proofs.places.port_paths.Given as goal

abbrev pub invariant-loop-first : goal.invariant-loop-first
invariant-loop-first l =
    l.paths.items ++ map (path_at l.entity l.architecture) (port_names (declared_ports l.left)) ≡ map (path_at l.entity l.architecture) (port_names (declared_ports l.declarations))

abbrev pub decreases-loop-first : goal.decreases-loop-first
decreases-loop-first l = size l.left
