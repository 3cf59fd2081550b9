use Rattle.vd_forest.specs.Forest.{tree_count}
use Rattle.vd_sensitivity.proofs.reads.slots_for.Given as goal

abbrev pub decreases-loop-first : goal.decreases-loop-first
decreases-loop-first l = tree_count l.left
