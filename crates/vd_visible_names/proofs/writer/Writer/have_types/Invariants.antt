use Rattle.std.proofs.Common.{◌≤◌, length}
use Rattle.vd_visible_names.proofs.writer.Writer.have_types.Given as goal

abbrev pub invariant-loop-left : goal.invariant-loop-left
invariant-loop-left l = record {
  own : l.left ≤ length l.operands;
  other : l.left ≤ length l.others;
}

abbrev pub decreases-loop-left : goal.decreases-loop-left
decreases-loop-left l = l.left
