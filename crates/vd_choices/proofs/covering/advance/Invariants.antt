use Rattle.vd_choices.proofs.CoverLemmas.{IsCarried}
use Rattle.vd_choices.proofs.covering.advance.Given as goal

abbrev pub invariant-loop-i : goal.invariant-loop-i
invariant-loop-i l = IsCarried l.within l.initial.text l.text l.i
