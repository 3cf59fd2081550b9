use Rattle.std.proofs.Common.{◌≡◌, ◌≤◌, ◌+◌, min}
use Rattle.vd_forest.specs.Forest.{size, tree_count}
use Rattle.vd_design_files.proofs.reading.count_units.Given as goal

abbrev pub invariant-loop-count : goal.invariant-loop-count
invariant-loop-count l = record {
  below : l.count ≤ l.most;
  same : min l.most (l.count + tree_count l.left) ≡ min l.most (tree_count l.units);
}

abbrev pub decreases-loop-count : goal.decreases-loop-count
decreases-loop-count l = size l.left
