use Rattle.vd_instance_rules.proofs.OrderLemmas.{order_broken, order_end, order_more}
use Rattle.vd_instance_rules.proofs.missing.are_in_order.Goals as goal

pub returns-then-is_behind_name : goal.returns-then-is_behind_name
returns-then-is_behind_name c =
    let n = c.in-Some.first in
    order_broken c.loop-first.rest c.loop-first.are_named n.form n.text.now n.place n.parts n.next _ c.is_named-has_name.result c.is_behind_name.result
    c.in-Some.ensures c.is_named-has_name.ensures c.is_behind_name.ensures c.loop-first.invariant c.if-is_behind_name.true

pub loop-first-preserved : goal.loop-first-preserved
loop-first-preserved c =
    let n = c.in-Some.first in
    order_more c.loop-first.rest c.loop-first.are_named n.form n.text.now n.place n.parts n.next _ c.is_named-has_name.result c.is_behind_name.result
    c.in-Some.ensures c.is_named-has_name.ensures c.is_behind_name.ensures c.loop-first.invariant c.if-is_behind_name.false

pub returns : goal.returns
returns c = order_end c.loop-first.rest c.loop-first.are_named _ c.in_default.ensures c.loop-first.invariant
