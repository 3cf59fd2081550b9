use Rattle.vd_given_choices.proofs.RefusalLemmas.{static_end, static_more}
use Rattle.vd_given_choices.proofs.refusals.first_not_static.Goals as goal

pub loop-choice-preserved : goal.loop-choice-preserved
loop-choice-preserved c =
    static_more c.args.choices.now c.loop-choice.choice-index c.loop-choice.found c.choice-item.result c.refused_if-refused.result c.lesser-found.result _
    c.loop-choice-test.true c.choice-item.is c.refused_if-refused.ensures c.lesser-found.ensures c.loop-choice.invariant

pub returns : goal.returns
returns c = λ gs are.
    static_end c.args.choices.now c.loop-choice.choice-index c.loop-choice.found gs c.loop-choice-test.false c.loop-choice.invariant are
