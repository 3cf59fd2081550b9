use Rattle.std.proofs.Common.{◌≡◌, drop}
use Rattle.vd_call_rules.specs.Reaches.{with_actuals, in_instance}
use Rattle.vd_call_rules.specs.Chains.{reach_in, stands_for}
use Rattle.vd_call_rules.proofs.chains.in_instance.Given as goal

abbrev pub invariant-loop-end : goal.invariant-loop-end
invariant-loop-end l =
    with_actuals (stands_for l.generics (reach_in l.declarations l.rows.items)) l.found (drop l.end-index l.reach.ends)
    ≡ in_instance (stands_for l.generics (reach_in l.declarations l.rows.items)) l.reach
