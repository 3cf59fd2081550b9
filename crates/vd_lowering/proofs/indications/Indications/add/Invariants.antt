use Rattle.vd_forest.specs.Forest.{tree_count}
use Rattle.vd_lowering.proofs.indications.Indications.add.Given as goal

abbrev pub decreases-loop-name : goal.decreases-loop-name
decreases-loop-name l = tree_count l.left
