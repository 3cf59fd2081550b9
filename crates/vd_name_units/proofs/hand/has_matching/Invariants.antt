use Rattle.std.proofs.Common.{◌≡◌}
use Rattle.vd_forest.specs.Forest.{size}
use Rattle.vd_forms.specs.declared.form.Form.TheVariants as form
use Rattle.vd_naming.specs.Openings.{has_form}
use Rattle.vd_name_units.proofs.hand.has_matching.Given as goal

abbrev pub invariant-loop-first : goal.invariant-loop-first
invariant-loop-first l = has_form form.Matching l.left ≡ has_form form.Matching l.fn.parts

abbrev pub decreases-loop-first : goal.decreases-loop-first
decreases-loop-first l = size l.left
