use Rattle.vd_composites.specs.Composites.{items_of}
use Rattle.vd_static_values.proofs.LevelLemmas.{all_gathered, one_gathered}
use Rattle.vd_static_values.proofs.regrouping.gathered.Goals as goal

pub loop-value-preserved : goal.loop-value-preserved
loop-value-preserved c =
    let values = c.args.values.now in
    one_gathered values c.loop-value.value-index c.value-item.result c.loop-value.items c.push.new.self (items_of values) c.loop-value-test.true c.value-item.is c.in_ok-push.ensures.ok
    c.loop-value.invariant

pub returns : goal.returns
returns c =
    let values = c.args.values.now in
    all_gathered values c.loop-value.value-index c.loop-value.items (items_of values) c.loop-value-test.false c.loop-value.invariant
