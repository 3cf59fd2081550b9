use Rattle.std.proofs.Common.{◌≡◌}
use lib.ListN.{replicate}
use Rattle.vd_vectors.proofs.shifts.fill_right.Given as goal

abbrev pub invariant-loop-place : goal.invariant-loop-place
invariant-loop-place l = l.made.items ≡ replicate l._place l.fn.new
