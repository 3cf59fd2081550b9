use Rattle.vd_forest.specs.Forest.{tree_count, size}
use Rattle.vd_weighing.proofs.LimitLemmas.{IsCounted}
use Rattle.vd_weighing.proofs.nodes.tree_count.Given as goal

abbrev pub invariant-loop-first : goal.invariant-loop-first
invariant-loop-first l = IsCounted l.count (tree_count l.left) (tree_count l.trees)

abbrev pub decreases-loop-first : goal.decreases-loop-first
decreases-loop-first l = size l.left
