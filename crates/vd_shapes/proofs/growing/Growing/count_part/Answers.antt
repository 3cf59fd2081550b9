use Rattle.std.proofs.Common.{arith}
use Rattle.vd_shapes.proofs.CountLemmas.{is_popped, counting_goes_on, Closes}
use Rattle.vd_shapes.proofs.growing.Growing.count_part.Goals as goal

pub close-requires : goal.close-requires
close-requires c = is_popped c.args.self.now c.loop-top.self (record c.loop-top.self { frames = c.pop.new.self }) c.in-Some.top c.loop-top.invariant c.in-Some.ensures.items

pub loop-top-preserved : goal.loop-top-preserved
unfolding Closes
loop-top-preserved c =
    counting_goes_on c.args.self.now c.loop-top.self (record c.loop-top.self { frames = c.pop.new.self }) c.close.new.self c.in-Some.top c.loop-top.invariant c.in-Some.ensures.items
    (omega arith) c.in_ok-close.ensures.kept c.in_ok-close.ensures.stands
