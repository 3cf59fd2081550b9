use Rattle.std.proofs.Common.{◌≡◌, ℕ, List, ◌++◌, map}
use Rattle.vd_forest.specs.Forest.{size}
use Rattle.vd_first_elaboration.specs.Ports.{Mode, ports_named}
use Rattle.vd_first_elaboration.specs.Elaboration.{port_names}
use Rattle.vd_first_runs.specs.Places.{path_at}
use Rattle.vd_first_runs.proofs.places.add_paths.Given as goal

abbrev pub invariant-loop-first : goal.invariant-loop-first
invariant-loop-first l =
    (mode : Mode) (mark : List ℕ)
    → l.paths.items ++ map (path_at l.entity l.architecture) (port_names (ports_named l.left mode mark)) ≡ l.fn.paths.items ++ map (path_at l.entity l.architecture) (port_names (ports_named l.identifiers mode mark))

abbrev pub decreases-loop-first : goal.decreases-loop-first
decreases-loop-first l = size l.left
