use Rattle.vd_forest.specs.Forest.{tree_count}
use Rattle.vd_known_notes.proofs.selecting.last_of.Given as goal

abbrev pub decreases-loop-piece : goal.decreases-loop-piece
decreases-loop-piece l = tree_count l.rest
