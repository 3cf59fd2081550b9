use Rattle.std.proofs.Common.{subst, sym}
use Rattle.vd_choice_rules.proofs.StatementLemmas.{by_equality, by_matching, found_same, none_matched, those_matched}
use Rattle.vd_given_choices.specs.Choices.{AreChoices}
use Rattle.vd_choice_rules.proofs.matching.refused_matching.Goals as goal

pub returns-in-None : goal.returns-in-None
returns-in-None c = λ d k ks s knows is.
    none_matched k.env s.comparison s.choices (by_equality c.args.selecting.now s is c.in-None.is)

pub returns-in-Some : goal.returns-in-Some
returns-in-Some c = λ d k ks s knows is.
    let are = subst (λ xs. AreChoices xs s.choices) (sym c.as_slice.ensures.value) is.choices in
    found_same _ _ c.first_matching.result (those_matched k.env s.comparison c.in-Some.of s.choices (by_matching c.args.selecting.now s is c.in-Some.of c.in-Some.is))
    (c.first_matching.ensures.matching d k ks s.choices knows are)
