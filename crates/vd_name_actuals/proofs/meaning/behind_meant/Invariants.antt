use Rattle.std.proofs.Common.{◌≡◌}
use Rattle.vd_forest.specs.Forest.{size}
use Rattle.vd_visible.specs.Sights.{sight_from}
use Rattle.vd_naming.specs.Actuals.{behind_meant}
use Rattle.vd_name_actuals.proofs.meaning.behind_meant.Given as goal

abbrev pub invariant-loop-piece : goal.invariant-loop-piece
invariant-loop-piece l = behind_meant (sight_from l.place) l.meant l.left ≡ behind_meant (sight_from l.place) l.fn.head l.fn.pieces

abbrev pub decreases-loop-piece : goal.decreases-loop-piece
decreases-loop-piece l = size l.left
