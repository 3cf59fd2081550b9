use Rattle.std.proofs.Common.{◌≡◌, [], drop}
use Rattle.vd_given_choices.specs.Refusals.{bounds_in, repeated_known}
use Rattle.vd_walks.specs.Least.{least_of, lesser}
use Rattle.vd_value_rules.specs.Choices.{share}
use Rattle.vd_given_choices.proofs.refusals.first_repeated.Given as goal

abbrev pub invariant-loop-choice : goal.invariant-loop-choice
invariant-loop-choice l =
    lesser l.found (least_of (repeated_known share bounds_in l.before.items (drop l.choice-index l.choices)))
    ≡ least_of (repeated_known share bounds_in [] l.choices)
