use Rattle.std.proofs.Common.{◌≡◌, ◌+◌}
use Rattle.vd_visible.specs.Lists.{positional}
use Rattle.vd_forest.specs.Forest.{size}
use Rattle.vd_visible.proofs.lists.positional.Given as goal

abbrev pub invariant-loop-first : goal.invariant-loop-first
invariant-loop-first l = l.count + positional l.rest ≡ positional l.fn.trees

abbrev pub decreases-loop-first : goal.decreases-loop-first
decreases-loop-first l = size l.rest
