use Rattle.std.proofs.Common.{subst, sym}
use Rattle.vd_choice_rules.proofs.StatementLemmas.{all_refused}
use Rattle.vd_given_choices.specs.Choices.{AreChoices}
use Rattle.vd_choice_rules.proofs.statements.refused_choices.Goals as goal

pub returns : goal.returns
returns c = λ d k ks s knows is.
    let are = subst (λ xs. AreChoices xs s.choices) (sym c.as_slice.ensures.value) is.choices in
    all_refused k.env s c.first_not_static-later.result c.in_ok-broken.broken c.lesser.result (c.first_not_static-later.ensures s.choices are)
    (c.in_ok-broken.ensures d k ks s knows is) c.lesser.ensures
