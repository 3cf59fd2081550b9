use Rattle.std.proofs.Common.{◌≡◌, take}
use Rattle.vd_kernel.proofs.AssignedLists.{kept}
use Rattle.vd_kernel.proofs.projections.after_assignment.Given as goal

abbrev pub invariant-loop-t : goal.invariant-loop-t
invariant-loop-t l = l.after.items ≡ kept l.delay l.new (take l.t-index l.old)
