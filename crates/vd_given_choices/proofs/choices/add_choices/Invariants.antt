use Rattle.std.proofs.Common.{◌≡◌, ◌++◌}
use Rattle.vd_given_choices.proofs.choices.add_choices.Given as goal

abbrev pub invariant-loop-choice : goal.invariant-loop-choice
invariant-loop-choice l = l.choices.items ≡ l.fn.choices.items ++ l.yielded
