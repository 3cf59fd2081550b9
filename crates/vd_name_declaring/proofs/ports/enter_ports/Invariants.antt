use Rattle.std.proofs.Common.{◌≡◌}
use Rattle.vd_forest.specs.Forest.{size}
use Rattle.vd_walks.specs.Least.{lesser}
use Rattle.vd_naming.specs.Endings.{entering_ports}
use Rattle.vd_name_declaring.proofs.ports.enter_ports.Given as goal

abbrev pub invariant-loop-part : goal.invariant-loop-part
invariant-loop-part l = record {
  design : (entering_ports l.region l.left l.made l.names).design ≡ (entering_ports l.fn.region l.fn.parts l.fn.nodes l.fn.names).design;
  first : lesser l.first (entering_ports l.region l.left l.made l.names).first ≡ (entering_ports l.fn.region l.fn.parts l.fn.nodes l.fn.names).first;
}

abbrev pub decreases-loop-part : goal.decreases-loop-part
decreases-loop-part l = size l.left
