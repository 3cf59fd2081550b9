use Rattle.vd_forest.specs.Forest.{tree_count}
use Rattle.vd_views.proofs.views.Views.put_modes.Given as goal

abbrev pub decreases-loop-element : goal.decreases-loop-element
decreases-loop-element l = tree_count l.rest
