use Rattle.std.proofs.Common.{◌≡◌, Some, length}
use Rattle.vd_joins.specs.Behind.{left_behind}
use Rattle.vd_joins.proofs.steps.left_behind.Given as goal

abbrev pub invariant-loop-first : goal.invariant-loop-first
invariant-loop-first l = left_behind (Some l.rest) l.left ≡ left_behind (Some l.fn.text) l.fn.steps

abbrev pub decreases-loop-first : goal.decreases-loop-first
decreases-loop-first l = length l.left
