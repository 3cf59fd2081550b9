use Rattle.vd_body_rules.proofs.ItemLemmas.{first_ended, pairs_ended}
use Rattle.vd_body_rules.proofs.pairs.paired.Goals as goal
use Rattle.vd_body_rules.proofs.pairs.paired.Goals.{else-loop-k-test, then-loop-k-test+else-k-ys}

pub returns : goal.returns
returns c =
    elim c.loop-k-test.branch [
      | then-loop-k-test+else-k-ys w ↦ pairs_ended c.args.xs.now c.args.ys.now c.loop-k.k c.loop-k.pairs _ c.loop-k.invariant w.if-k-ys.false
      | else-loop-k-test w ↦ first_ended c.args.xs.now c.args.ys.now c.loop-k.k c.loop-k.pairs _ c.loop-k.invariant w.loop-k-test.false
    ]
