use Rattle.vd_forest.specs.Forest.{tree_count}
use Rattle.vd_vector_conversions.proofs.records.ends_with_vectors.Given as goal

abbrev pub invariant-loop-element : goal.invariant-loop-element
invariant-loop-element l = Unit {0}

abbrev pub decreases-loop-element : goal.decreases-loop-element
decreases-loop-element l = tree_count l.rest
