use Rattle.std.proofs.Common.{sym, ◌∙◌}
use Rattle.vd_static_values.proofs.LevelLemmas.{all_regrouped, one_regrouped}
use Rattle.vd_static_values.specs.Levels.{regrouped}
use Rattle.vd_static_values.proofs.regrouping.regrouped.Goals as goal

pub loop-array-preserved : goal.loop-array-preserved
loop-array-preserved c =
    let arrays = c.args.arrays.now in
    one_regrouped arrays c.loop-array.array-index c.array-item.result c.in_ok-again.again c.in-Some.bounds c.in-Ok.length c.loop-array.made.items c.push.new.self.items c.loop-array.left.now
    c.split_at.result.0.now c.split_at.result.1.now (regrouped arrays c.args.elements.now) c.loop-array-test.true c.array-item.is (sym c.bounds.ensures ∙ c.in-Some.is)
    (c.in-Ok.ensures.1 ∙ c.length.ensures) c.split_at.ensures.front c.split_at.ensures.back c.in_ok-again.ensures c.in_ok-push.ensures.items c.loop-array.invariant

pub returns : goal.returns
returns c =
    let arrays = c.args.arrays.now in
    all_regrouped arrays c.loop-array.array-index c.loop-array.made.items c.loop-array.left.now (regrouped arrays c.args.elements.now) c.loop-array-test.false c.loop-array.invariant
