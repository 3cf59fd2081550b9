use Rattle.std.proofs.Common.{◌≡◌, ◌≤◌, length}
use Rattle.vd_forest.specs.Store.{at}
use Rattle.vd_vector_conversions.specs.Conversions.{last_parts}
use Rattle.vd_vector_conversions.proofs.conversions.last_parts.Given as goal

abbrev pub invariant-loop-tree : goal.invariant-loop-tree
invariant-loop-tree l = record {
  within : l.number ≤ length l.out;
  same : last_parts (at l.out l.number) ≡ last_parts (at l.out l.trees);
}

abbrev pub decreases-loop-tree : goal.decreases-loop-tree
decreases-loop-tree l = l.number
