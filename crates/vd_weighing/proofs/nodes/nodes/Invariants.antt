use Rattle.std.proofs.Common.{sum_by}
use Rattle.vd_weighing.specs.Weights.{nodes as nodes_of}
use Rattle.vd_weighing.proofs.LimitLemmas.{IsCounted}
use Rattle.vd_weighing.proofs.NodeLemmas.{node_steps}
use Rattle.vd_weighing.proofs.nodes.nodes.Given as goal

abbrev pub invariant-loop-last : goal.invariant-loop-last
invariant-loop-last l = IsCounted l.count (sum_by nodes_of l.left.items) (nodes_of l.trees)

abbrev pub decreases-loop-last : goal.decreases-loop-last
decreases-loop-last l = sum_by node_steps l.left.items
