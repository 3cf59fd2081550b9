use Rattle.vd_aggregate_rules.proofs.ChoiceLemmas.{association_choices}
use Rattle.vd_aggregate_rules.proofs.arrays.choices_at.Goals as goal

pub returns-in-Association-clause-choices : goal.returns-in-Association-clause-choices
returns-in-Association-clause-choices c = λ d k ks knows.
    let n = c.args.element.now in
    association_choices n.form.form d k.env n.parts c.parts.result c.choices_given.result c.in-Association.is c.parts.ensures (c.choices_given.ensures.choices d k ks knows)
