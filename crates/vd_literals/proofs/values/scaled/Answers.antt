use Rattle.std.proofs.Common.{◌≡◌, ◌+◌, ◌*◌, ◌^◌, ◌-◌, arith, sym, ap, ◌∙◌}
use Rattle.vd_literals.proofs.ValueLemmas.{bounded-above, pow-step, pow-above}
use Rattle.vd_literals.proofs.values.scaled.Goals as goal

pub returns-then-n : goal.returns-then-n
returns-then-n c =
    let n = c.loop-left.n in
    let base = c.args.base in
    let all = c.loop-left.invariant.scaled ∙ pow-step n base c.loop-left.left c.loop-left-test.true in
    let more = pow-above (n * base) base (c.loop-left.left - 1) c.requires.low in
    sym (bounded-above _ (omega (arith, all, more, c.if-n.true)))

pub loop-left-preserved : goal.loop-left-preserved
loop-left-preserved c = record {
  scaled = c.loop-left.invariant.scaled ∙ pow-step c.loop-left.n c.args.base c.loop-left.left c.loop-left-test.true;
  fits = omega (arith, c.if-n.false);
}
