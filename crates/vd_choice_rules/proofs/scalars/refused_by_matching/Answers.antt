use Rattle.std.proofs.Common.{subst, sym}
use Rattle.vd_choice_rules.proofs.StatementLemmas.{scalars_refused}
use Rattle.vd_given_choices.specs.Choices.{AreChoices}
use Rattle.vd_choice_rules.proofs.scalars.refused_by_matching.Goals as goal

pub returns : goal.returns
returns c = λ d k ks s knows is compared.
    let are = subst (λ xs. AreChoices xs s.choices) (sym c.as_slice-choices.ensures.value) is.choices in
    scalars_refused k.env c.args.of c.args.selecting.now s c.refused_if-missing.result c.in_ok-repeated.repeated c.in_ok-matching.matching c.lesser.result c.lesser-2.result
    is compared c.refused_if-missing.ensures (c.in_ok-repeated.ensures s.choices are) (c.in_ok-matching.ensures.matching d k ks s.choices knows are) c.lesser.ensures c.lesser-2.ensures
