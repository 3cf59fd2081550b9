use Rattle.std.proofs.Common.{◌<◌, ◌≡◌, arith}
use Rattle.vd_composites.specs.Ranges.{length_of}
use Rattle.vd_given_choices.proofs.ValueLemmas.{value_more}
use Rattle.vd_given_choices.proofs.values.range_values.Goals as goal

pub loop-place-preserved : goal.loop-place-preserved
loop-place-preserved c =
    let many : c.length.result ≡ length_of c.args.range = c.length.ensures in
    let below : c.loop-place.place < length_of c.args.range = (let e = c.in-Ok.ensures in omega arith) in
    value_more c.args.of c.args.range c.loop-place.place c.loop-place.values.items c.push.new.self.items c.in_ok-value.value below c.in_ok-value.ensures
    c.in_ok-push.ensures.items c.loop-place.invariant
