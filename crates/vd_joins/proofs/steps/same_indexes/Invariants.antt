use Rattle.std.proofs.Common.{◌≡◌, length}
use Rattle.vd_joins.specs.Joins.{same_indexes}
use Rattle.vd_joins.proofs.steps.same_indexes.Given as goal

abbrev pub invariant-loop-one : goal.invariant-loop-one
invariant-loop-one l = same_indexes l.left l.right ≡ same_indexes l.fn.labels l.fn.others

abbrev pub decreases-loop-one : goal.decreases-loop-one
decreases-loop-one l = length l.left
