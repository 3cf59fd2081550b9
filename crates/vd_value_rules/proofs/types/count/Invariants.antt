use Rattle.std.proofs.Common.{◌≡◌, ◌+◌, length}
use Rattle.vd_forest.specs.Forest.{size}
use Rattle.vd_value_rules.specs.Indicated.{texts_in}
use Rattle.vd_value_rules.proofs.types.count.Given as goal

abbrev pub invariant-loop-first : goal.invariant-loop-first
invariant-loop-first l = l.total + length (texts_in l.left) ≡ length (texts_in l.literals)

abbrev pub decreases-loop-first : goal.decreases-loop-first
decreases-loop-first l = size l.left
