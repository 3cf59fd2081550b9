use Rattle.std.proofs.Common.{length, ◌-◌}
use Rattle.vd_composites.proofs.VectorLemmas.{SameRest}
use Rattle.vd_composites.proofs.vectors.same_nodes.Given as goal

abbrev pub invariant-loop-place : goal.invariant-loop-place
invariant-loop-place l = SameRest l.left l.right l.place

abbrev pub decreases-loop-place : goal.decreases-loop-place
decreases-loop-place l = length l.left - l.place
