use Rattle.std.proofs.Common.{◌≡◌, ◌++◌, drop}
use lib.ListN.{replicate}
use Rattle.vd_vectors.proofs.shifts.fill_left.Given as goal

abbrev pub invariant-loop-place : goal.invariant-loop-place
invariant-loop-place l = l.made.items ≡ drop l.gone l.fn.values ++ replicate l._place l.fn.new
