use Rattle.vd_given_choices.proofs.choices.choices_given.Goals as goal

pub returns-clause-choices : goal.returns-clause-choices
returns-clause-choices c = λ d k ks knows.
    c.with_places.ensures d c.args.design.now.table.subtypes k.env (c.in_ok-nodes.ensures.nodes d k ks knows)
