use Rattle.std.proofs.Common.{arith, ◌∙◌}
use Rattle.vd_body_rules.proofs.LikenessLemmas.{trees_more}
use Rattle.vd_body_rules.proofs.likeness.same_trees.Goals as goal

pub loop-left-preserved : goal.loop-left-preserved
loop-left-preserved c =
    trees_more c.args.pairs.now c.loop-left.left c.loop-left.other c.loop-left.f c.loop-left.g c.next-f.result c.next-g.result c.in_ok-same.same
    (omega arith) (omega arith) c.in_ok-same.ensures c.if-not-same.false c.next-f.ensures c.next-g.ensures
    ∙ c.loop-left.invariant
