use Rattle.std.proofs.Common.{◌≡◌}
use Rattle.vd_forest.specs.Forest.{size}
use Rattle.vd_visible.specs.Sights.{sight_from}
use Rattle.vd_walks.specs.Least.{lesser}
use Rattle.vd_naming.specs.Pieces.{refused_behind}
use Rattle.vd_naming.proofs.pieces.refused_behind.Given as goal

abbrev pub invariant-loop-node : goal.invariant-loop-node
invariant-loop-node l =
    lesser l.refused (refused_behind (sight_from l.place) l.names l.region l.first l.meant l.rest)
    ≡ refused_behind (sight_from l.place) l.names l.region l.first l.fn.head l.fn.pieces

abbrev pub decreases-loop-node : goal.decreases-loop-node
decreases-loop-node l = size l.rest
