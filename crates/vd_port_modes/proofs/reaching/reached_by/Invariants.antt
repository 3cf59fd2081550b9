use Rattle.std.proofs.Common.{◌≡◌}
use Rattle.vd_forest.specs.Forest.{tree_count}
use Rattle.vd_port_modes.specs.Readings.{read_reached}
use Rattle.vd_port_modes.specs.Source.{design_in}
use Rattle.vd_value_rules.specs.Reaching.{reached, reached_behind}
use Rattle.vd_port_modes.proofs.reaching.reached_by.Given as goal

abbrev pub invariant-loop-piece : goal.invariant-loop-piece
invariant-loop-piece l = reached_behind (design_in l.interfaces) l.rest (read_reached l.found) ≡ reached (design_in l.interfaces) l.parts

abbrev pub decreases-loop-piece : goal.decreases-loop-piece
decreases-loop-piece l = tree_count l.rest
