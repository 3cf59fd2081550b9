use Rattle.std.proofs.Common.{◌≡◌}
use Rattle.vd_forest.specs.Forest.{size}
use Rattle.vd_value_rules.specs.Actuals.{last_brackets}
use Rattle.vd_port_associations.proofs.brackets.last_brackets.Given as goal

abbrev pub invariant-loop-piece : goal.invariant-loop-piece
invariant-loop-piece l = last_brackets l.rest ≡ last_brackets l.fn.pieces

abbrev pub decreases-loop-piece : goal.decreases-loop-piece
decreases-loop-piece l = size l.rest
