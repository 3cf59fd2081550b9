use Rattle.vd_forest.specs.Forest.{size}
use Rattle.vd_visible_names.proofs.writer.Writer.enter_ports.Given as goal

abbrev pub decreases-loop-node : goal.decreases-loop-node
decreases-loop-node l = size l.left
