use Rattle.std.proofs.Common.{◌≤◌, length}
use Rattle.vd_forest.specs.Forest.{tree_count}
use Rattle.vd_forest.specs.Store.{Extends}
use Rattle.vd_sensitivity.proofs.written.pieces_of.Given as goal

abbrev pub invariant-loop-piece : goal.invariant-loop-piece
invariant-loop-piece l = record {
  made_in : l.made ≤ length l.out;
  extends : Extends l.fn.out l.out;
}

abbrev pub decreases-loop-piece : goal.decreases-loop-piece
decreases-loop-piece l = tree_count l.left
