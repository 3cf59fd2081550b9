use Rattle.std.proofs.Common.{◌≡◌, arith, ap, ◌∙◌}
use Rattle.vd_composites.specs.Ranges.{length_of}
use Rattle.vd_composites.specs.Composites.{Array, repeated}
use Rattle.vd_subtypes.proofs.StackLemmas.{repeated_more, array_is}
use Rattle.vd_subtypes.proofs.defaults.repeat.Goals as goal

pub loop-place-preserved : goal.loop-place-preserved
loop-place-preserved c = repeated_more c.loop-place._place c.args.value.now c.loop-place.items c.push.new.self c.loop-place.invariant c.in_ok-push.ensures.ok

pub returns-in-Ok-array : goal.returns-in-Ok-array
returns-in-Ok-array c =
    let many : c.length.result ≡ length_of c.args.bounds = c.length.ensures in
    let all : c.loop-place._place ≡ length_of c.args.bounds = (let e = c.in-Ok.ensures in omega arith) in
    array_is c.args.bounds c.loop-place.items c.in-Ok-array.made c.in-Ok-array.ensures
    ∙ ap (Array c.args.bounds) (c.loop-place.invariant ∙ ap (λ n. repeated n c.args.value.now) all)
