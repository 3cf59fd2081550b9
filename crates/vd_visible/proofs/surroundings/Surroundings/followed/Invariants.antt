use Rattle.std.proofs.Common.{◌≡◌}
use Rattle.vd_visible.specs.Sights.{sight_from}
use Rattle.vd_visible.specs.Types.{followed, followed_from}
use Rattle.vd_visible.proofs.surroundings.Surroundings.followed.Given as goal

abbrev pub invariant-loop-left : goal.invariant-loop-left
invariant-loop-left l = followed_from l.left (sight_from l.self) l.at ≡ followed (sight_from l.self) l.fn.mark

abbrev pub decreases-loop-left : goal.decreases-loop-left
decreases-loop-left l = l.left
