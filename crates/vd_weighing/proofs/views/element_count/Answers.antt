use Rattle.std.proofs.Common.{ap, sym, subst, ◌∙◌}
use Rattle.vd_forest.specs.Forest.{tree_count}
use Rattle.vd_weighing.specs.Weights.{mode_count, element_count}
use Rattle.vd_weighing.specs.Limits.{at_most}
use Rattle.vd_weighing.proofs.LimitLemmas.{IsCounted, counted_none, counted_all}
use Rattle.vd_weighing.proofs.ViewLemmas.{elements_more}
use Rattle.vd_weighing.proofs.views.element_count.Goals as goal

pub loop-first-init : goal.loop-first-init
loop-first-init c ds =
    let want = element_count ds c.args.elements.now c.args.known.now in
    subst (λ f. IsCounted 0 (element_count ds f c.args.known.now) want) (sym c.fork-left.ensures) (counted_none want)

pub loop-first-preserved : goal.loop-first-preserved
loop-first-preserved c ds =
    let first = c.in-Some.first in
    let k = c.args.known.now in
    elements_more ds k c.loop-first.left first.parts first.next first.form first.text.now first.place c.in-Some.ensures c.loop-first.count
    c.product.result c.plus-count.result (element_count ds c.args.elements.now k) c.plus-count.ensures c.tree_count-names.result c.mode_count-each.result
    (c.tree_count-names.ensures ∙ ap (λ f. at_most (tree_count f)) c.parts.ensures)
    (c.mode_count-each.ensures ds ∙ ap (λ f. mode_count ds f k) c.next.ensures) c.product.ensures (c.loop-first.invariant ds)

pub returns : goal.returns
returns c ds =
    let k = c.args.known.now in
    counted_all c.loop-first.count (element_count ds c.loop-first.left k) (element_count ds c.args.elements.now k) (c.loop-first.invariant ds)
    (ap (λ f. element_count ds f k) c.in_default.ensures)
