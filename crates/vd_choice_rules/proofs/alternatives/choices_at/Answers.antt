use Rattle.vd_choice_rules.proofs.AlternativeLemmas.{choices_there}
use Rattle.vd_choice_rules.proofs.alternatives.choices_at.Goals as goal

pub returns-in-Choices-clause-choices : goal.returns-in-Choices-clause-choices
returns-in-Choices-clause-choices c = λ d k ks knows.
    let n = c.in-Some.first in
    choices_there d k.env c.args.tree.now n.form n.text.now n.place n.parts n.next c.choices_given.result c.in-Some.ensures c.in-Choices.is
    (c.choices_given.ensures.choices d k ks knows)
