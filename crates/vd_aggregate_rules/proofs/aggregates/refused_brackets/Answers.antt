use Rattle.vd_aggregate_rules.proofs.AnswerLemmas.{of_several}
use Rattle.vd_aggregate_rules.proofs.aggregates.refused_brackets.Goals as goal

pub returns-clause-refused : goal.returns-clause-refused
returns-clause-refused c = λ d k ks knows.
    of_several d k.env c.args.is_bounded c.args.place c.args.elements.now c.refused_of_type.result c.args.mark c.is_one_element.result
    (c.is_one_element.ensures d.table) c.if-is_one_element.false (c.refused_of_type.ensures.refused d k ks knows)
