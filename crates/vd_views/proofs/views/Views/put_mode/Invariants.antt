use Rattle.vd_forest.specs.Forest.{tree_count}
use Rattle.vd_views.proofs.views.Views.put_mode.Given as goal

abbrev pub decreases-loop-name : goal.decreases-loop-name
decreases-loop-name l = tree_count l.rest
