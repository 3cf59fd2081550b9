use Rattle.vd_forest.specs.Forest.{size}
use Rattle.vd_names.proofs.rows.Gathering.add_ports.Given as goal

abbrev pub decreases-loop-first : goal.decreases-loop-first
decreases-loop-first l = size l.left
