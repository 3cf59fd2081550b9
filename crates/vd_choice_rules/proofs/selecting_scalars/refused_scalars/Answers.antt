use Rattle.std.proofs.Common.{subst, sym}
use Rattle.vd_choice_rules.proofs.ScalarLemmas.{scalars_refused}
use Rattle.vd_given_choices.specs.Choices.{AreChoices}
use Rattle.vd_choice_rules.proofs.selecting_scalars.refused_scalars.Goals as goal

pub returns : goal.returns
returns c = λ e s is equal.
    let are = subst (λ xs. AreChoices xs s.choices) (sym c.as_slice-choices.ensures.value) is.choices in
    scalars_refused e c.args.selecting.now s c.in_ok-gap.gap c.is_lacking-lacking.result c.in_ok-repeated.repeated c.refused_if-missing.result c.lesser.result is equal
    (c.in_ok-gap.ensures s.choices are) (c.in_ok-repeated.ensures s.choices are) c.is_lacking-lacking.ensures c.refused_if-missing.ensures c.lesser.ensures
