use Rattle.std.proofs.Common.{◌≡◌}
use Rattle.vd_forest.specs.Forest.{size}
use Rattle.vd_naming.specs.Edges.{has_wrong_call}
use Rattle.vd_name_expressions.proofs.edges.has_wrong_call.Given as goal

abbrev pub invariant-loop-piece : goal.invariant-loop-piece
invariant-loop-piece l = has_wrong_call l.names.scopes l.left ≡ has_wrong_call l.names.scopes l.fn.pieces

abbrev pub decreases-loop-piece : goal.decreases-loop-piece
decreases-loop-piece l = size l.left
