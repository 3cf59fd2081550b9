use Rattle.vd_given_choices.proofs.CoverLemmas.{one_interval}
use Rattle.vd_given_choices.proofs.covering.intervals.Goals as goal

pub loop-one-preserved : goal.loop-one-preserved
loop-one-preserved c =
    one_interval c.loop-one.one-index c.loop-one.found.items c.push.new.self.items c.args.bounds.now c.interval.result _ c.loop-one.invariant c.loop-one-test.true
    c.interval.ensures c.in_ok-push.ensures.items
