use Rattle.std.proofs.Common.{◌≡◌, None, is_some, get_or, drop}
use Rattle.vd_walks.specs.Least.{lesser, least_of, refusals}
use Rattle.vd_call_rules.specs.Calls.{early_calls, nothing_ended}
use Rattle.vd_call_rules.proofs.calls.early_calls.Given as goal

abbrev pub invariant-loop-event : goal.invariant-loop-event
invariant-loop-event l =
    lesser l.found (least_of (refusals (early_calls (λ k. get_or l.ends k None) (λ k. is_some (get_or l.ended.items k None)) (drop l.event-index l.events))))
    ≡ least_of (refusals (early_calls (λ k. get_or l.ends k None) nothing_ended l.events))
