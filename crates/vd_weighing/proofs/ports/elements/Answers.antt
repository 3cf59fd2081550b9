use Rattle.std.proofs.Common.{ap, sym, subst, ◌∙◌}
use Rattle.vd_weighing.specs.Weights.{times_at, formal_of, elements}
use Rattle.vd_weighing.proofs.LimitLemmas.{IsCounted, counted_none, counted_all}
use Rattle.vd_weighing.proofs.ViewLemmas.{associations_more}
use Rattle.vd_weighing.proofs.ports.elements.Goals as goal

pub loop-first-init : goal.loop-first-init
loop-first-init c ds =
    let want = elements ds c.args.ports.now c.args.known.now c.args.parts.now in
    subst (λ f. IsCounted 0 (elements ds c.args.ports.now c.args.known.now f) want) (sym c.fork-left.ensures) (counted_none want)

pub loop-first-preserved : goal.loop-first-preserved
loop-first-preserved c ds =
    let first = c.in-Some.first in
    let k = c.args.known.now in
    let free = c.loop-first.free.now in
    associations_more ds k c.loop-first.left first.parts first.next first.form first.text.now first.place c.in-Some.ensures c.loop-first.weight
    c.product.result c.plus-weight.result (elements ds c.args.ports.now k c.args.parts.now) c.plus-weight.ensures free c.later_ports-free.result.now
    c.own_weight.result c.in_ok-inner.inner c.plus-here.result c.times.result c.own_weight.ensures c.in_ok-inner.ensures c.plus-here.ensures
    (c.times.ensures ∙ ap (λ p. times_at p k.views) (c.formal-port.ensures ds ∙ ap (formal_of ds first.form.form first.parts) (c.next_port.ensures ds)))
    c.product.ensures (c.later_ports-free.ensures ds) (c.loop-first.invariant ds)

pub returns : goal.returns
returns c ds =
    let k = c.args.known.now in
    counted_all c.loop-first.weight (elements ds c.loop-first.free.now k c.loop-first.left) (elements ds c.args.ports.now k c.args.parts.now) (c.loop-first.invariant ds)
    (ap (elements ds c.loop-first.free.now k) c.in_default.ensures)
