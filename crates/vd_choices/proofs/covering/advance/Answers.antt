use Rattle.std.proofs.Common.{arith}
use Rattle.vd_choices.proofs.CoverLemmas.{carried_to}
use Rattle.vd_choices.proofs.covering.advance.Goals as goal

pub returns-then-text-i : goal.returns-then-text-i
returns-then-text-i c = carried_to c.args.within c.args.text.now c.loop-i.text c.loop-i.i c.loop-i.invariant (omega (arith, c.loop-i.invariant.long, c.loop-i-test.true)) c.if-text-i.true
