use Rattle.vd_forest.specs.Forest.{size}
use Rattle.vd_visible_names.proofs.clauses.last_of.Given as goal

abbrev pub decreases-loop-first : goal.decreases-loop-first
decreases-loop-first l = size l.left
