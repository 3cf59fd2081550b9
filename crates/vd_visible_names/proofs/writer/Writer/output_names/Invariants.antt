use Rattle.std.proofs.Common.{◌≤◌, length}
use Rattle.vd_visible_names.proofs.writer.Writer.output_names.Given as goal

abbrev pub invariant-loop-left : goal.invariant-loop-left
invariant-loop-left l = l.left ≤ length l.found.items

abbrev pub decreases-loop-left : goal.decreases-loop-left
decreases-loop-left l = l.left
