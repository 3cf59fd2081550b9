use Rattle.std.proofs.Common.{ap, sym, ◌∙◌}
use Rattle.vd_choice_rules.proofs.StatementLemmas.{found_same}
use Rattle.vd_walks.specs.Least.{least_of}
use Rattle.vd_value_rules.specs.Choices.{array_choices}
use Rattle.vd_choice_rules.proofs.arrays.refused_of_arrays.Goals as goal

pub returns-in-None : goal.returns-in-None
returns-in-None c = λ d k ks s knows is.
    c.refused_lengthless.ensures k.env s is ∙ sym (ap (λ n. least_of (array_choices k.env n s)) (is.shape.length ∙ c.in-None.is))

pub returns-in-Some : goal.returns-in-Some
returns-in-Some c = λ d k ks s knows is.
    found_same _ _ c.refused_counted.result (sym (ap (λ n. least_of (array_choices k.env n s)) (is.shape.length ∙ c.in-Some.is)))
    (c.refused_counted.ensures d k ks s knows is)
