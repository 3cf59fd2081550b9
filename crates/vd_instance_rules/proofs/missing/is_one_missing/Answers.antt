use Rattle.std.proofs.Common.{◌∙◌, sym}
use Rattle.vd_instance_rules.proofs.LoopLemmas.{any_here, any_more, any_none}
use Rattle.vd_instance_rules.specs.Instances.{design_at}
use Rattle.vd_value_rules.specs.Actuals.{is_missing}
use Rattle.vd_instance_rules.proofs.missing.is_one_missing.Goals as goal

pub returns-then-is_missing : goal.returns-then-is_missing
returns-then-is_missing c = λ as' holds.
    any_here (is_missing (design_at c.args.instance.now) as') c.args.ports.now c.loop-port.port-index c.port-item.result c.loop-port-test.true (sym c.port-item.is) _
    (sym (c.is_missing.ensures as' holds) ∙ c.if-is_missing.true) (c.loop-port.invariant as' holds)

pub loop-port-preserved : goal.loop-port-preserved
loop-port-preserved c = λ as' holds.
    any_more (is_missing (design_at c.args.instance.now) as') c.args.ports.now c.loop-port.port-index c.port-item.result c.loop-port-test.true (sym c.port-item.is) _
    (sym (c.is_missing.ensures as' holds) ∙ c.if-is_missing.false) (c.loop-port.invariant as' holds)

pub returns : goal.returns
returns c = λ as' holds.
    any_none (is_missing (design_at c.args.instance.now) as') c.args.ports.now c.loop-port.port-index _ c.loop-port-test.false (c.loop-port.invariant as' holds)
