use Rattle.std.proofs.Common.{◌∙◌, sym}
use Rattle.vd_instance_rules.proofs.LoopLemmas.{all_but, all_more, all_none}
use Rattle.vd_instance_rules.proofs.missing.are_all_for_ports.Goals as goal

pub returns-then-not-is_for_port : goal.returns-then-not-is_for_port
returns-then-not-is_for_port c =
    all_but c.args.associations.now c.loop-association.association-index c.association-item.result c.loop-association-test.true (sym c.association-item.is) _
    (sym c.is_for_port.ensures ∙ c.if-not-is_for_port.true) c.loop-association.invariant

pub loop-association-preserved : goal.loop-association-preserved
loop-association-preserved c =
    all_more c.args.associations.now c.loop-association.association-index c.association-item.result c.loop-association-test.true (sym c.association-item.is) _
    (sym c.is_for_port.ensures ∙ c.if-not-is_for_port.false) c.loop-association.invariant

pub returns : goal.returns
returns c = all_none c.args.associations.now c.loop-association.association-index _ c.loop-association-test.false c.loop-association.invariant
