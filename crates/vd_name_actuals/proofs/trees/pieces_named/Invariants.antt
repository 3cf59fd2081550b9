use Rattle.std.proofs.Common.{◌≡◌, ◌≤◌, length}
use Rattle.vd_forest.specs.Forest.{size, turned}
use Rattle.vd_forest.specs.Store.{at, Extends}
use Rattle.vd_visible.specs.Sights.{sight_from}
use Rattle.vd_naming.specs.Actuals.{pieces_named}
use Rattle.vd_name_actuals.proofs.trees.pieces_named.Given as goal

abbrev pub invariant-loop-piece : goal.invariant-loop-piece
invariant-loop-piece l = record {
  made_in : l.made ≤ length l.out;
  same : turned (at l.out l.made) (pieces_named (sight_from l.place) l.function l.meant l.left)
      ≡ pieces_named (sight_from l.place) l.function l.fn.head l.fn.pieces;
  extends : Extends l.fn.out l.out;
}

abbrev pub decreases-loop-piece : goal.decreases-loop-piece
decreases-loop-piece l = size l.left
