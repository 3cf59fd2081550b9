use Rattle.vd_choices.proofs.Sweeps.{IsSwept}
use Rattle.vd_choices.proofs.intervals.covers_in_order.Given as goal

abbrev pub invariant-loop-choice : goal.invariant-loop-choice
invariant-loop-choice l = IsSwept l.within l.sorted l.choice-index l.next
