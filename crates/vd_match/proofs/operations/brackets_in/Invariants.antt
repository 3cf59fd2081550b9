use Rattle.std.proofs.Common.{◌≡◌, ◌≤◌, length}
use Rattle.vd_forest.specs.Store.{at}
use Rattle.vd_match.specs.Operations.{brackets_in}
use Rattle.vd_match.proofs.operations.brackets_in.Given as goal

abbrev pub invariant-loop-piece : goal.invariant-loop-piece
invariant-loop-piece l = record {
  within : l.left ≤ length l.out;
  is : brackets_in (at l.out l.left) ≡ brackets_in (at l.out l.pieces);
}

abbrev pub decreases-loop-piece : goal.decreases-loop-piece
decreases-loop-piece l = l.left
