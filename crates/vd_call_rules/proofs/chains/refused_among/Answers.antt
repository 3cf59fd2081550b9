use Rattle.std.proofs.Common.{◌+◌, drop, ap, ◌∙◌, arith}
use Rattle.std.proofs.lemmas.Grind.{common_steps}
use Rattle.vd_walks.specs.Least.{lesser, least_of, refusals}
use Rattle.vd_call_rules.specs.Chains.{reach_in, long_calls}
use Rattle.vd_call_rules.proofs.ChainLemmas.{one_event}
use Rattle.vd_call_rules.proofs.chains.refused_among.Goals as goal

pub loop-event-preserved : goal.loop-event-preserved
loop-event-preserved c =
    let i = c.loop-event.event-index in
    let events = c.args.events.now in
    let ds = c.args.declarations.now in
    c.in_ok-found.ensures (drop (i + 1) events)
    ∙ ap (λ es. lesser c.loop-event.found (least_of (refusals (long_calls ds (reach_in ds c.loop-event.rows.items) es))))
    (one_event events i _ c.loop-event-test.true (grind (arith, common_steps)))
    ∙ c.loop-event.invariant
