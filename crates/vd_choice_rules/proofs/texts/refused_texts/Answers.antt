use Rattle.std.proofs.Common.{subst, sym}
use Rattle.vd_choice_rules.proofs.KnownLemmas.{all_refused}
use Rattle.vd_given_choices.specs.Choices.{AreChoices}
use Rattle.vd_choice_rules.proofs.texts.refused_texts.Goals as goal

pub returns : goal.returns
returns c = λ s is.
    all_refused c.args.selecting.now s is c.args.count c.as_slice-choices.result.now c.in_ok-gap.gap c.refused_if-unselectable.result
    c.in_ok-other_length.other_length c.missing.result c.in_ok-repeated.repeated c.lesser-of_lengths.result c.lesser-not_repeated.result c.lesser.result
    (subst (λ xs. AreChoices xs s.choices) (sym c.as_slice-choices.ensures.value) is.choices)
    c.refused_if-unselectable.ensures c.in_ok-other_length.ensures c.in_ok-gap.ensures c.in_ok-repeated.ensures (c.missing.ensures s is)
    c.lesser-of_lengths.ensures c.lesser-not_repeated.ensures c.lesser.ensures
