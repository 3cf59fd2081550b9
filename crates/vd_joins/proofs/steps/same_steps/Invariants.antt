use Rattle.std.proofs.Common.{◌≡◌, length}
use Rattle.vd_joins.specs.Joins.{same_steps}
use Rattle.vd_joins.proofs.steps.same_steps.Given as goal

abbrev pub invariant-loop-one : goal.invariant-loop-one
invariant-loop-one l = same_steps l.left l.right ≡ same_steps l.fn.steps l.fn.others

abbrev pub decreases-loop-one : goal.decreases-loop-one
decreases-loop-one l = length l.left
