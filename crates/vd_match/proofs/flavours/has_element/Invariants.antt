use Rattle.vd_forest.specs.Forest.{tree_count}
use Rattle.vd_match.proofs.flavours.has_element.Given as goal

abbrev pub decreases-loop-first : goal.decreases-loop-first
decreases-loop-first l = tree_count l.rest
