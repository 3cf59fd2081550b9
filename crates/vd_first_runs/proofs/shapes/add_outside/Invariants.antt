use Rattle.std.proofs.Common.{◌≡◌, ◌++◌, length, replicate}
use Rattle.vd_forest.specs.Forest.{size}
use Rattle.vd_first_elaboration.specs.Ports.{declared_ports}
use Rattle.vd_first_elaboration.specs.Elaboration.{inputs_from}
use Rattle.vd_first_runs.specs.Shapes.{plain_driver}
use Rattle.vd_first_runs.proofs.shapes.add_outside.Given as goal

abbrev pub invariant-loop-first : goal.invariant-loop-first
invariant-loop-first l =
    l.drivers.items ++ replicate (length (inputs_from 0 (declared_ports l.left))) plain_driver ≡ l.fn.drivers.items ++ replicate (length (inputs_from 0 (declared_ports l.declarations))) plain_driver

abbrev pub decreases-loop-first : goal.decreases-loop-first
decreases-loop-first l = size l.left
