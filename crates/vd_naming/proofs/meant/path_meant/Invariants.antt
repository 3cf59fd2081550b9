use Rattle.std.proofs.Common.{◌≡◌}
use Rattle.vd_forest.specs.Forest.{size}
use Rattle.vd_visible.specs.Sights.{sight_from}
use Rattle.vd_naming.specs.Paths.{meant_by, path_meant}
use Rattle.vd_naming.proofs.meant.path_meant.Given as goal

abbrev pub invariant-loop-first : goal.invariant-loop-first
invariant-loop-first l = meant_by (sight_from l.place) l.meant l.rest ≡ path_meant (sight_from l.place) l.fn.pieces

abbrev pub decreases-loop-first : goal.decreases-loop-first
decreases-loop-first l = size l.rest
