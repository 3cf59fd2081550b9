use Rattle.std.proofs.Common.{◌≡◌, ◌+◌, ◌∷◌, get_or, drop, None, is_some, ap, sym, ◌∙◌, arith}
use Rattle.std.proofs.lemmas.Grind.{common_steps}
use Rattle.vd_walks.specs.Least.{lesser, least_of, refusals}
use Rattle.vd_call_rules.specs.Calls.{early_calls}
use Rattle.vd_call_rules.proofs.CallLemmas.{one_event}
use Rattle.vd_call_rules.proofs.calls.early_calls.Goals as goal

pub loop-event-preserved : goal.loop-event-preserved
loop-event-preserved c =
    let i = c.loop-event.event-index in
    let events = c.args.events.now in
    c.in_ok-found.ensures (drop (i + 1) events)
    ∙ ap (λ es. lesser c.loop-event.found (least_of (refusals (early_calls (λ k. get_or c.args.ends.now k None) (λ k. is_some (get_or c.loop-event.ended.items k None)) es))))
    (one_event events i _ c.loop-event-test.true (grind (arith, common_steps)))
    ∙ c.loop-event.invariant
