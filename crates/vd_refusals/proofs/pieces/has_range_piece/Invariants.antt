use Rattle.std.proofs.Common.{◌≡◌}
use Rattle.vd_refusals.specs.Seen.{has_range_piece}
use Rattle.vd_forest.specs.Forest.{size}
use Rattle.vd_refusals.proofs.pieces.has_range_piece.Given as goal

abbrev pub invariant-loop-first : goal.invariant-loop-first
invariant-loop-first l = has_range_piece l.rest ≡ has_range_piece l.fn.pieces

abbrev pub decreases-loop-first : goal.decreases-loop-first
decreases-loop-first l = size l.rest
