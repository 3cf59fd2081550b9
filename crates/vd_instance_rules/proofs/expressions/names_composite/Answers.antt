use Rattle.std.proofs.Common.{◌&&◌, ◌∙◌, not, sym}
use Rattle.vd_instance_rules.proofs.LoopLemmas.{any_here, any_more, any_none}
use Rattle.vd_value_rules.specs.Actuals.{is_scalar}
use Rattle.vd_value_rules.specs.Designs.{is_listed}
use Rattle.vd_instance_rules.proofs.expressions.names_composite.Goals as goal

pub returns-then-is_composite : goal.returns-then-is_composite
returns-then-is_composite c = λ d k ks gs knows holds.
    any_here (λ n. is_listed n gs && not (is_scalar (k.env.denotes n).subtype)) c.args.numbers.now c.loop-number.number-index c.number-item.result
    c.loop-number-test.true (sym c.number-item.is) _ (sym (c.is_composite.ensures d k ks gs knows holds) ∙ c.if-is_composite.true)
    (c.loop-number.invariant d k ks gs knows holds)

pub loop-number-preserved : goal.loop-number-preserved
loop-number-preserved c = λ d k ks gs knows holds.
    any_more (λ n. is_listed n gs && not (is_scalar (k.env.denotes n).subtype)) c.args.numbers.now c.loop-number.number-index c.number-item.result
    c.loop-number-test.true (sym c.number-item.is) _ (sym (c.is_composite.ensures d k ks gs knows holds) ∙ c.if-is_composite.false)
    (c.loop-number.invariant d k ks gs knows holds)

pub returns : goal.returns
returns c = λ d k ks gs knows holds.
    any_none (λ n. is_listed n gs && not (is_scalar (k.env.denotes n).subtype)) c.args.numbers.now c.loop-number.number-index _ c.loop-number-test.false
    (c.loop-number.invariant d k ks gs knows holds)
