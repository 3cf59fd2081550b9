use Rattle.vd_choice_rules.proofs.SeenLemmas.{other_end, other_more}
use Rattle.vd_choice_rules.proofs.lengths.first_of_other_length.Goals as goal

pub loop-choice-preserved : goal.loop-choice-preserved
loop-choice-preserved c =
    other_more c.args.count c.args.choices.now c.loop-choice.choice-index c.loop-choice.found c.choice-item.result c.in_ok-is_other.is_other
    c.refused_if-refused.result c.lesser-found.result _ c.loop-choice-test.true c.choice-item.is c.in_ok-is_other.ensures c.refused_if-refused.ensures
    c.lesser-found.ensures c.loop-choice.invariant

pub returns : goal.returns
returns c =
    other_end c.args.count c.args.choices.now c.loop-choice.choice-index c.loop-choice.found c.loop-choice-test.false c.loop-choice.invariant
