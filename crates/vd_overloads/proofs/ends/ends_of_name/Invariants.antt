use Rattle.vd_forest.specs.Forest.{size}
use Rattle.vd_visible.specs.Sights.{sight_from}
use Rattle.vd_overloads.specs.Goals.{SameMembers, ends_behind, ends_of_name}
use Rattle.vd_overloads.proofs.ends.ends_of_name.Given as goal

abbrev pub invariant-loop-piece : goal.invariant-loop-piece
invariant-loop-piece l = SameMembers (ends_behind (sight_from l.at) l.found.items l.left) (ends_of_name (sight_from l.at) l.fn.pieces)

abbrev pub decreases-loop-piece : goal.decreases-loop-piece
decreases-loop-piece l = size l.left
