use Rattle.std.proofs.Common.{◌-◌, length}
use Rattle.vd_visible_names.proofs.writer.Writer.next_open.Given as goal

abbrev pub decreases-loop-place : goal.decreases-loop-place
decreases-loop-place l = length l.written - l.place
