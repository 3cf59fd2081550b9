use Rattle.std.proofs.Common.{◌≡◌}
use Rattle.vd_forest.specs.Forest.{size}
use Rattle.vd_tops.specs.Tops.{have_defaults}
use Rattle.vd_tops.proofs.units.all_have_defaults.Given as goal

abbrev pub invariant-loop-first : goal.invariant-loop-first
invariant-loop-first l = have_defaults l.left ≡ have_defaults l.fn.generics

abbrev pub decreases-loop-first : goal.decreases-loop-first
decreases-loop-first l = size l.left
