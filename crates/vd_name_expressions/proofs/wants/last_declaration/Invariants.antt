use Rattle.std.proofs.Common.{◌≡◌}
use Rattle.vd_forest.specs.Forest.{size}
use Rattle.vd_naming.specs.Expressions.{last_declaration}
use Rattle.vd_name_expressions.proofs.LastLemmas.{last_behind}
use Rattle.vd_name_expressions.proofs.wants.last_declaration.Given as goal

abbrev pub invariant-loop-node : goal.invariant-loop-node
invariant-loop-node l = last_behind l.last l.left ≡ last_declaration l.fn.trees

abbrev pub decreases-loop-node : goal.decreases-loop-node
decreases-loop-node l = size l.left
