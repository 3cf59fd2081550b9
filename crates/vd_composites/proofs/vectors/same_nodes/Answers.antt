use Rattle.std.proofs.Common.{◌+◌, sym, ap, ◌∙◌, subst}
use Rattle.vd_composites.specs.Nodes.{after, width_of}
use Rattle.vd_composites.proofs.NodeSteps.{tail_of}
use Rattle.vd_composites.proofs.VectorLemmas.{SameRest, same_begin, same_step, same_not, head_wanted_here, same_tails}
use Rattle.vd_composites.proofs.vectors.same_nodes.Goals as goal

pub loop-place-init : goal.loop-place-init
loop-place-init c = same_begin c.args.left.now c.args.right.now c.requires.left c.requires.right

pub head_of-place-requires : goal.head_of-place-requires
head_of-place-requires c =
    let more = head_wanted_here c.args.left.now c.args.right.now c.loop-place.place c.loop-place-test.true c.loop-place.invariant in
    (more.0, ap (after _) (tail_of c.loop-place.place c.args.left.now) ∙ more.1)

pub returns-then-not-heads_agree : goal.returns-then-not-heads_agree
returns-then-not-heads_agree c =
    sym (same_not c.args.left.now c.args.right.now c.loop-place.place c.loop-place-test.true c.loop-place.invariant
    (same_tails c.loop-place.place c.args.left.now c.args.right.now ∙ sym c.heads_agree.ensures ∙ c.if-not-heads_agree.true))

pub loop-place-preserved : goal.loop-place-preserved
loop-place-preserved c =
    subst (λ w. SameRest c.args.left.now c.args.right.now (c.loop-place.place + w)) (ap width_of (sym (tail_of c.loop-place.place c.args.left.now)) ∙ sym c.head_of-place.ensures.width)
    (same_step c.args.left.now c.args.right.now c.loop-place.place c.loop-place-test.true c.loop-place.invariant
    (same_tails c.loop-place.place c.args.left.now c.args.right.now ∙ sym c.heads_agree.ensures ∙ c.if-not-heads_agree.false))
