use Rattle.vd_choices.proofs.Sweeps.{IsApart}
use Rattle.vd_choices.proofs.intervals.is_repeated_in_order.Given as goal

abbrev pub invariant-loop-choice : goal.invariant-loop-choice
invariant-loop-choice l = IsApart l.sorted l.choice-index l.last
