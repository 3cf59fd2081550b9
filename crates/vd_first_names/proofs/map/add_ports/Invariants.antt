use Rattle.std.proofs.Common.{◌≡◌, ◌++◌}
use Rattle.vd_forest.specs.Forest.{size}
use Rattle.vd_first_names.specs.Maps.{port_rows}
use Rattle.vd_first_names.proofs.map.add_ports.Given as goal

abbrev pub invariant-loop-first : goal.invariant-loop-first
invariant-loop-first l = l.rows.items ++ port_rows l.unit l.left ≡ l.fn.rows.items ++ port_rows l.unit l.fn.declarations

abbrev pub decreases-loop-first : goal.decreases-loop-first
decreases-loop-first l = size l.left
