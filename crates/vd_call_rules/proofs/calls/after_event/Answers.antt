use Rattle.vd_call_rules.proofs.CallLemmas.{call_step, end_step}
use Rattle.vd_call_rules.proofs.calls.after_event.Goals as goal

pub returns-in-Called : goal.returns-in-Called
returns-in-Called c =
    λ es. call_step c.args.ends.now c.args.ended.now.items c.as_slice.result.now c.args.found c.refused_until-refused.result c.lesser.result c.entry.result
    c.in-Called.function c.number.result c.in-Called.place c.args.event es
    c.number.ensures c.entry.ensures c.as_slice.ensures.value c.refused_until-refused.ensures c.lesser.ensures c.in-Called.is

pub returns-in_ok-put-in-Ended : goal.returns-in_ok-put-in-Ended
returns-in_ok-put-in-Ended c =
    λ es. end_step c.args.ends.now c.args.ended.now.items c.put.new.table.items c.args.found c.in-Ended.number c.number-in-Ended.result c.args.event es
    c.number-in-Ended.ensures c.in_ok-put-in-Ended.ensures c.in-Ended.is
