use Rattle.std.proofs.Common.{◌∙◌}
use Rattle.vd_body_rules.proofs.LikenessLemmas.{one_ended, other_ended}
use Rattle.vd_body_rules.proofs.likeness.all_same_declared.Goals as goal
use Rattle.vd_body_rules.proofs.likeness.all_same_declared.Goals.{else-loop-k-test, then-loop-k-test+else-k-ys}

pub returns : goal.returns
returns c =
    let i = c.loop-k.invariant in
    let xs = c.args.xs.now in
    let ys = c.args.ys.now in
    elim c.loop-k-test.branch [
      | then-loop-k-test+else-k-ys w ↦ other_ended c.args.pairs.now xs ys c.loop-k.k i.in_one i.in_other w.if-k-ys.false ∙ i.same
      | else-loop-k-test w ↦ one_ended c.args.pairs.now xs ys c.loop-k.k i.in_one i.in_other w.loop-k-test.false ∙ i.same
    ]
