use Rattle.std.proofs.Common.{arith, ◌≡◌, ◌≤◌, ◌<◌, ◌+◌, ◌-◌, length}
use Rattle.vd_composites.proofs.NodeLemmas.{wanted_fit}
use Rattle.vd_composites.proofs.NodeSteps.{more_here, head_wanted, left_fits, single_front, same_wanted}
use Rattle.vd_composites.proofs.nodes.front.Goals as goal

pub head_of-head-requires : goal.head_of-head-requires
head_of-head-requires c =
    let some : 0 < c.loop-left.left = omega arith in
    head_wanted c.args.items c.requires.there.0 c.loop-left.left c.loop-left.place c.args.nodes.now some c.loop-left.invariant.front c.requires.there.1

pub overflow_add-left : goal.overflow_add-left
overflow_add-left c =
    let some : 0 < c.loop-left.left = omega arith in
    let fit : c.loop-left.left - 1 + c.head_of-head.result.parts ≤ length c.args.nodes.now = left_fits c.args.items c.requires.there.0 c.loop-left.left c.loop-left.place c.args.nodes.now c.head_of-head.result.parts some c.loop-left.invariant.within c.loop-left.invariant.front c.requires.there.1 c.head_of-head.ensures.parts in
    omega arith

pub loop-left-smaller : goal.loop-left-smaller
loop-left-smaller c =
    let some : 0 < c.loop-left.left = omega arith in
    let one = more_here c.args.items c.requires.there.0 c.loop-left.left c.loop-left.place c.args.nodes.now c.head_of-head.result.width c.head_of-head.result.parts some c.loop-left.invariant.within c.loop-left.invariant.front c.requires.there.1 c.head_of-head.ensures.width c.head_of-head.ensures.parts in
    let within : c.loop-left.place + c.head_of-head.result.width ≤ length c.args.nodes.now = one.within in
    let wide : 0 < c.head_of-head.result.width = one.some in
    omega arith

pub loop-left-preserved : goal.loop-left-preserved
loop-left-preserved c =
    let some : 0 < c.loop-left.left = omega arith in
    let one = more_here c.args.items c.requires.there.0 c.loop-left.left c.loop-left.place c.args.nodes.now c.head_of-head.result.width c.head_of-head.result.parts some c.loop-left.invariant.within c.loop-left.invariant.front c.requires.there.1 c.head_of-head.ensures.width c.head_of-head.ensures.parts in
    record { within = one.within; front = one.front }

pub returns-then-most-total : goal.returns-then-most-total
returns-then-most-total c = record {
  within = (let fit : c.args.items + c.requires.there.0 ≤ length c.args.nodes.now + 0 = wanted_fit (c.args.items + c.requires.there.0) 0 c.args.nodes.now c.requires.there.1 in omega arith);
  front = (
      let same : c.args.total ≡ c.args.items + c.requires.there.0 = same_wanted c.args.total (c.args.items + c.requires.there.0) c.args.nodes.now c.requires.all c.requires.there.1 in
      single_front c.args.total c.args.items c.args.nodes.now c.requires.all c.if-most-total.true (omega arith));
}

pub overflow_add-place : goal.overflow_add-place
overflow_add-place c =
    let some : 0 < c.loop-left.left = omega arith in
    let one = more_here c.args.items c.requires.there.0 c.loop-left.left c.loop-left.place c.args.nodes.now c.head_of-head.result.width c.head_of-head.result.parts some c.loop-left.invariant.within c.loop-left.invariant.front c.requires.there.1 c.head_of-head.ensures.width c.head_of-head.ensures.parts in
    let within : c.loop-left.place + c.head_of-head.result.width ≤ length c.args.nodes.now = one.within in
    omega arith
