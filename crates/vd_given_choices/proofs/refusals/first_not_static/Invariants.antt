use Rattle.std.proofs.Common.{◌≡◌, drop}
use Rattle.vd_given_choices.specs.Refusals.{not_static_in}
use Rattle.vd_walks.specs.Least.{least_of, lesser}
use Rattle.vd_given_choices.proofs.refusals.first_not_static.Given as goal

abbrev pub invariant-loop-choice : goal.invariant-loop-choice
invariant-loop-choice l = lesser l.found (least_of (not_static_in (drop l.choice-index l.choices))) ≡ least_of (not_static_in l.choices)
