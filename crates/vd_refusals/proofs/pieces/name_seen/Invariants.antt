use Rattle.std.proofs.Common.{◌≡◌}
use Rattle.vd_visible.specs.Sights.{sight_from}
use Rattle.vd_refusals.specs.Seen.{pieces_seen, name_seen}
use Rattle.vd_forest.specs.Forest.{size}
use Rattle.vd_refusals.proofs.pieces.name_seen.Given as goal

abbrev pub invariant-loop-first : goal.invariant-loop-first
invariant-loop-first l = pieces_seen (sight_from l.at) l.seen l.rest ≡ name_seen (sight_from l.at) l.fn.pieces

abbrev pub decreases-loop-first : goal.decreases-loop-first
decreases-loop-first l = size l.rest
