use Rattle.std.proofs.Common.{◌≡◌, sym, ◌∙◌, arith}
use Rattle.std.proofs.lemmas.Grind.{common_steps}
use Rattle.vd_composites.specs.Composites.{joined, item, none}
use Rattle.vd_subtypes.specs.Positional.{fit_each_head}
use Rattle.vd_composites.specs.Composites.{items_of}
use Rattle.vd_subtypes.proofs.PositionalLemmas.{one_fitted, one_ends, all_fitted}
use Rattle.vd_subtypes.proofs.positional.fit_each.Goals as goal

pub returns-in-Err : goal.returns-in-Err
returns-in-Err c =
    one_ends c.args.head c.loop-value.items c.args.values.now c.loop-value.value-index c.value-item.result c.in-Err.end (fit_each_head c.args.head (items_of c.args.values.now)) c.loop-value-test.true c.value-item.is c.in-Err.ensures c.loop-value.invariant

pub loop-value-preserved : goal.loop-value-preserved
loop-value-preserved c =
    let pushed : c.push.new.self ≡ joined c.loop-value.items (item c.in-Ok.made none) = grind (arith, common_steps) in
    sym (one_fitted c.args.head c.loop-value.items c.push.new.self c.args.values.now c.loop-value.value-index c.value-item.result c.in-Ok.made c.loop-value-test.true c.value-item.is c.in-Ok.ensures pushed) ∙ c.loop-value.invariant

pub returns : goal.returns
returns c = all_fitted c.args.head c.loop-value.items c.args.values.now c.loop-value.value-index (fit_each_head c.args.head (items_of c.args.values.now)) (omega arith) c.loop-value.invariant
