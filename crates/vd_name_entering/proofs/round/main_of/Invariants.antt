use Rattle.std.proofs.Common.{◌≡◌}
use Rattle.vd_forest.specs.Forest.{size}
use Rattle.vd_naming.specs.Units.{main_of}
use Rattle.vd_name_entering.proofs.round.main_of.Given as goal

abbrev pub invariant-loop-first : goal.invariant-loop-first
invariant-loop-first l = main_of l.left ≡ main_of l.fn.unit

abbrev pub decreases-loop-first : goal.decreases-loop-first
decreases-loop-first l = size l.left
