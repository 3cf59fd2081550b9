use Rattle.vd_forest.specs.Forest.{tree_count}
use Rattle.vd_match.proofs.flavours.set_all.Given as goal

abbrev pub decreases-loop-first : goal.decreases-loop-first
decreases-loop-first l = tree_count l.rest
