use Rattle.vd_forest.specs.Forest.{tree_count}
use Rattle.vd_vector_conversions.proofs.records.note_choices.Given as goal

abbrev pub invariant-loop-choice : goal.invariant-loop-choice
invariant-loop-choice l = Unit {0}

abbrev pub decreases-loop-choice : goal.decreases-loop-choice
decreases-loop-choice l = tree_count l.rest
