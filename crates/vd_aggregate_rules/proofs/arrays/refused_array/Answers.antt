use Rattle.std.proofs.Common.{subst, sym}
use Rattle.vd_given_choices.specs.Choices.{AreChoices}
use Rattle.vd_value_rules.specs.Aggregates.{choices_of_elements}
use Rattle.vd_aggregate_rules.proofs.arrays.refused_array.Goals as goal

pub returns-clause-refused : goal.returns-clause-refused
returns-clause-refused c = λ d k ks knows.
    let gs = choices_of_elements d k.env c.args.elements.now in
    c.refused_choices.ensures k.env c.args.elements.now gs
    (subst (λ xs. AreChoices xs gs) (sym c.deref.ensures.value) (c.in_ok-choices.ensures.choices d k ks knows)) c.has_others-has_others.ensures
