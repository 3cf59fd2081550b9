use Rattle.std.proofs.Common.{◌≡◌, ◌++◌, drop}
use Rattle.vd_given_choices.specs.Refusals.{bounds_in, those_known}
use Rattle.vd_given_choices.proofs.ranges.known_bounds.Given as goal

abbrev pub invariant-loop-choice : goal.invariant-loop-choice
invariant-loop-choice l = l.known.items ++ those_known bounds_in (drop l.choice-index l.choices) ≡ those_known bounds_in l.choices
