use Rattle.std.proofs.Common.{◌≡◌, drop}
use Rattle.vd_walks.specs.Least.{lesser, least_of, refusals}
use Rattle.vd_call_rules.specs.Chains.{reach_in, first_reach, long_calls}
use Rattle.vd_call_rules.proofs.chains.refused_among.Given as goal

abbrev pub invariant-loop-event : goal.invariant-loop-event
invariant-loop-event l =
    lesser l.found (least_of (refusals (long_calls l.declarations (reach_in l.declarations l.rows.items) (drop l.event-index l.events))))
    ≡ least_of (refusals (long_calls l.declarations (first_reach l.declarations) l.events))
