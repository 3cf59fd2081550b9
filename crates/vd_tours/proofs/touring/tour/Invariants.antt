use Rattle.std.proofs.Common.{◌≡◌, ◌≤◌, ◌∷◌, ◌+◌, ◌*◌, List, length, reverse}
use Rattle.vd_forest.specs.Forest.{Forest, size}
use Rattle.vd_forest.specs.Store.{Extends}
use Rattle.vd_walks.specs.Positions.{Position}
use Rattle.vd_tours.proofs.TourLemmas.{AreIn, IsState, work_round}
use Rattle.vd_tours.proofs.touring.tour.Given as goal

abbrev pub invariant-loop-node : goal.invariant-loop-node
invariant-loop-node g l = record {
  made_in : l.made ≤ length l.out;
  round_in : AreIn l.out (reverse l.round.items);
  extends : Extends l.fn.out l.out;
  same : g.T.Touring.frame l.by ≡ g.T.Touring.frame l.fn.by;
  state : (before : List (Forest g.row.G.Denot)) (p : Position g.row.F.Denot) (ps : List (Position g.row.F.Denot)) → Extends before l.fn.out → g.T.Touring.knows l.fn.by before (p ∷ ps)
      → IsState (g.T.Touring.replaces (g.T.Touring.frame l.fn.by)) (g.T.Touring.becomes (g.T.Touring.frame l.fn.by)) p l.from (g.T.Touring.knows l.by) l.out ps l.left l.made (reverse l.round.items);
}

abbrev pub decreases-loop-node : goal.decreases-loop-node
decreases-loop-node g l = 2 * size l.left + work_round (reverse l.round.items)
