use Rattle.std.proofs.Common.{◌≡◌}
use Rattle.vd_forest.specs.Forest.{tree_count}
use Rattle.vd_vector_conversions.specs.Naturals.{last_tree}
use Rattle.vd_vector_conversions.proofs.naturals.last_tree.Given as goal

abbrev pub invariant-loop-first : goal.invariant-loop-first
invariant-loop-first l = last_tree l.rest ≡ last_tree l.trees

abbrev pub decreases-loop-first : goal.decreases-loop-first
decreases-loop-first l = tree_count l.rest
