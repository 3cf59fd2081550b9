use Rattle.std.proofs.Common.{◌≡◌}
use Rattle.vd_forest.specs.Forest.{size}
use Rattle.vd_tops.specs.Tops.{library_unit}
use Rattle.vd_tops.proofs.units.library_unit.Given as goal

abbrev pub invariant-loop-first : goal.invariant-loop-first
invariant-loop-first l = library_unit l.left ≡ library_unit l.fn.parts

abbrev pub decreases-loop-first : goal.decreases-loop-first
decreases-loop-first l = size l.left
