use Rattle.std.proofs.Common.{◌≡◌}
use Rattle.vd_forest.specs.Forest.{size}
use Rattle.vd_visible.specs.Sights.{sight_from}
use Rattle.vd_naming.specs.Paths.{passes_outside, path_outside, prefix_pieces}
use Rattle.vd_naming.proofs.outside.prefix_outside.Given as goal

abbrev pub invariant-loop-first : goal.invariant-loop-first
invariant-loop-first l =
    passes_outside (sight_from l.place) l.names.scopes l.region l.meant (prefix_pieces l.rest)
    ≡ path_outside (sight_from l.place) l.names l.region (prefix_pieces l.fn.pieces)

abbrev pub decreases-loop-first : goal.decreases-loop-first
decreases-loop-first l = size (prefix_pieces l.rest)
