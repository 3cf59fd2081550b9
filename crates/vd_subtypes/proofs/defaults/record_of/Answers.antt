use Rattle.std.proofs.Common.{◌≡◌, arith, ◌∙◌}
use Rattle.vd_composites.specs.Composites.{Fields}
use Rattle.vd_subtypes.specs.Stacks.{from_top}
use Rattle.vd_subtypes.proofs.StackLemmas.{one_taken, takes_record, ok_value}
use Rattle.vd_subtypes.proofs.defaults.record_of.Goals as goal

pub loop-place-preserved : goal.loop-place-preserved
loop-place-preserved c =
    let two = one_taken c.loop-place._place c.loop-place.stack.items c.pop.new.self.items c.loop-place.items c.push.new.self (from_top c.args.stack.now.items) c.in-Some.value
    c.loop-place.invariant.taken c.loop-place.invariant.same c.in-Some.ensures.items c.in_ok-push.ensures.ok
    in
    record { taken = two.0; same = two.1 }

pub returns-in-Ok : goal.returns-in-Ok
returns-in-Ok c =
    let all : c.loop-place._place ≡ c.args.fields = omega arith in
    takes_record c.args.fields c.args.stack.now.items c.loop-place.stack.items c.loop-place.items c.in-Ok.made (c.loop-place.invariant.taken ∙ all) c.loop-place.invariant.same (ok_value (Fields c.loop-place.items) c.in-Ok.made c.in-Ok.ensures)
