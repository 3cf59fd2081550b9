use Rattle.std.proofs.Common.{arith}
use Rattle.vd_gram.proofs.LinkLemmas.{span_past}
use Rattle.vd_gram.proofs.derivation.end_of.Goals as goal

pub returns-then-end-steps : goal.returns-then-end-steps
returns-then-end-steps c = span_past c.args.steps.now c.args.start c.loop.counter c.args.count c.loop.end c.loop.invariant c.if-end-steps.true (omega arith)
