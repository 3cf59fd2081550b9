use Rattle.std.proofs.Common.{◌≡◌, ◌≤◌, ◌+◌, min}
use Rattle.vd_forest.specs.Forest.{tree_count}
use Rattle.vd_text_rules.proofs.designators.few_trees.Given as goal

abbrev pub invariant-loop-first : goal.invariant-loop-first
invariant-loop-first l = record {
  few : l.count ≤ 3;
  counted : min (l.count + tree_count l.rest) 3 ≡ min (tree_count l.list) 3;
}

abbrev pub decreases-loop-first : goal.decreases-loop-first
decreases-loop-first l = tree_count l.rest
