use Rattle.vd_forest.specs.Forest.{tree_count}
use Rattle.vd_vector_conversions.proofs.modes.note_ports.Given as goal

abbrev pub invariant-loop-name : goal.invariant-loop-name
invariant-loop-name l = Unit {0}

abbrev pub decreases-loop-name : goal.decreases-loop-name
decreases-loop-name l = tree_count l.rest
