use Rattle.std.proofs.Common.{◌+◌, ap, sym, ◌∙◌, arith}
use Rattle.vd_weighing.specs.Weights.{nodes_of_first, nodes, own_weight}
use Rattle.vd_weighing.specs.Limits.{at_most}
use Rattle.vd_weighing.proofs.LimitLemmas.{at_most_small, at_most_plus_right}
use Rattle.vd_weighing.proofs.nodes.nodes_of_first.Goals as goal

pub returns-in-None : goal.returns-in-None
returns-in-None c = sym (at_most_small 0 (omega arith)) ∙ ap (λ f. at_most (nodes_of_first f)) (sym c.in-None.ensures)

pub returns-in_ok-inner-in-Some : goal.returns-in_ok-inner-in-Some
returns-in_ok-inner-in-Some c =
    c.plus.ensures ∙ ap (λ n. at_most (n + c.in_ok-inner-in-Some.inner)) c.own_weight.ensures
    ∙ ap (λ n. at_most (own_weight c.in-Some.first.form.form + n)) c.in_ok-inner-in-Some.ensures
    ∙ at_most_plus_right (own_weight c.in-Some.first.form.form) (nodes c.in-Some.first.parts)
    ∙ ap (λ f. at_most (nodes_of_first f)) (sym c.in-Some.ensures)
