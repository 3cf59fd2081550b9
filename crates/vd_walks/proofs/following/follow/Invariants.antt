use Rattle.std.proofs.Common.{◌≡◌, ◌++◌, ◌∷◌, ◌+◌, ◌*◌, List, reverse}
use Rattle.vd_bytes.specs.declared.answers.Refused.{Refused}
use Rattle.vd_forest.specs.Forest.{size}
use Rattle.vd_walks.specs.Positions.{Position, all_broken_at}
use Rattle.vd_walks.proofs.PositionLemmas.{Walked, work_round}
use Rattle.vd_walks.proofs.following.follow.Given as goal

abbrev pub invariant-loop-node : goal.invariant-loop-node
invariant-loop-node g l = record {
  walked : (rs : List Refused) (p : Position g.row.F.Denot) (ps : List (Position g.row.F.Denot)) → g.T.Following.follows l.fn.by rs (p ∷ ps)
      → Walked (g.T.Following.broken l.fn.by) (g.T.Following.follows l.by) p l.from ps (rs ++ all_broken_at (g.T.Following.broken l.fn.by) p l.from) l.left (reverse l.round.items);
  same : g.T.Following.broken l.by ≡ g.T.Following.broken l.fn.by;
}

abbrev pub decreases-loop-node : goal.decreases-loop-node
decreases-loop-node g l = 2 * size l.left + work_round (reverse l.round.items)
