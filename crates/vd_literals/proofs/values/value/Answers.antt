use Rattle.std.proofs.Common.{◌≡◌, ◌+◌, ◌*◌, get_or, drop, arith, sym, ap, ◌∙◌}
use Rattle.std.proofs.lemmas.Bool.{ne_eqb}
use Rattle.vd_literals.specs.Values.{value_behind}
use Rattle.vd_literals.proofs.ValueLemmas.{bounded-above, value-above, value-digit}
use Rattle.vd_literals.proofs.values.value.Goals as goal

pub returns-then-n : goal.returns-then-n
returns-then-n c =
    let bs = c.args.digits.now in
    let i = c.loop-b.b-index in
    let base = c.args.base in
    let next = c.loop-b.n * base + c.digit_value.result in
    let all = c.loop-b.invariant.value ∙ (value-digit base c.loop-b.n bs i c.loop-b-test.true (ne_eqb (get_or bs i 0) 95 c.if-b-ne95.true) ∙ ap (λ d. value_behind base (c.loop-b.n * base + d) (drop (i + 1) bs)) (sym c.digit_value.ensures)) in
    sym (bounded-above _ (let more = value-above base next (drop (i + 1) bs) c.requires.low in omega (arith, all, more, c.if-n.true)))
