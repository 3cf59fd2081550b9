use Rattle.vd_call_rules.specs.Chains.{reach_in}
use Rattle.vd_call_rules.proofs.ChainLemmas.{event_step}
use Rattle.vd_call_rules.proofs.chains.after_event.Goals as goal

pub returns : goal.returns
returns c =
    λ es. event_step c.args.declarations.now (reach_in c.args.declarations.now c.args.rows.now.items) (reach_in c.args.declarations.now c.after.new.rows.items)
    c.args.found c.in_ok-refused.refused c.lesser.result c.args.event.now es
    c.in_ok-refused.ensures c.in_ok-after.ensures c.lesser.ensures
