use Rattle.std.proofs.Common.{◌≡◌}
use Rattle.vd_forest.specs.Forest.{size}
use Rattle.vd_naming.specs.Actuals.{are_selections}
use Rattle.vd_name_actuals.proofs.meaning.are_selections.Given as goal

abbrev pub invariant-loop-form : goal.invariant-loop-form
invariant-loop-form l = are_selections l.left ≡ are_selections l.fn.pieces

abbrev pub decreases-loop-form : goal.decreases-loop-form
decreases-loop-form l = size l.left
