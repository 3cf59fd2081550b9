use Rattle.vd_choices.proofs.Sweeps.{halved_start, halved_first}
use Rattle.vd_choices.proofs.intervals.first_repeated.Goals as goal

pub loop-free-init : goal.loop-free-init
loop-free-init c = halved_start _ (c.in_ok-is_repeated.ensures.0 c.if-not-branch.false)

pub returns-clause-first : goal.returns-clause-first
returns-clause-first c = halved_first _ _ _ c.loop-free.invariant c.loop-free-test.false
