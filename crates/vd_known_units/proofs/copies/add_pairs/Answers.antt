use Rattle.std.proofs.Common.{arith, ◌∙◌}
use Rattle.vd_known_units.proofs.CopyLemmas.{pair_added}
use Rattle.vd_known_units.proofs.copies.add_pairs.Goals as goal

pub loop-at-preserved : goal.loop-at-preserved
loop-at-preserved c =
    pair_added c.args.from.now c.args.to.now c.loop-at.at _ _ c.number.result c.number-in-loop-at.result c.args.made.now.items c.loop-at.made.items c.push.new.self.items
    (omega (arith, c.min-at-end.ensures, c.loop-at-test.true)) (omega (arith, c.min-at-end.ensures, c.loop-at-test.true))
    (c.number.ensures ∙ c.index-from-at.is) (c.number-in-loop-at.ensures ∙ c.index-to-at.is) c.loop-at.invariant c.in_ok-push.ensures.items
