use Rattle.std.proofs.Common.{ap, sym, ◌∙◌}
use Rattle.vd_aggregate_rules.proofs.AnswerLemmas.{found_same}
use Rattle.vd_walks.specs.Least.{least_of}
use Rattle.vd_value_rules.specs.Aggregates.{aggregate_broken, aggregate_of_form, unless_one}
use Rattle.vd_aggregate_rules.proofs.aggregates.refused_aggregate.Goals as goal

pub returns-in-Aggregate-clause-refused : goal.returns-in-Aggregate-clause-refused
returns-in-Aggregate-clause-refused c = λ d s ks knows bounded.
    let n = c.args.node.now in
    found_same _ _ c.refused_brackets.result
    (ap (λ b. least_of (unless_one d n.parts (aggregate_broken d s.known.env n.form.mark b n.place n.parts))) (sym bounded)
    ∙ ap (λ f. least_of (aggregate_of_form f d s n.form n.place n.parts)) (sym c.in-Aggregate.is))
    (c.refused_brackets.ensures.refused d s.known ks knows)

pub returns-in-Qualification-clause-refused : goal.returns-in-Qualification-clause-refused
returns-in-Qualification-clause-refused c = λ d s ks knows bounded.
    let n = c.args.node.now in
    found_same _ _ c.refused_brackets-in-Qualification.result
    (ap (λ b. least_of (unless_one d n.parts (aggregate_broken d s.known.env n.form.mark b n.place n.parts))) (c.has_bounded_subtype-is_bounded.ensures d s.known ks knows)
    ∙ ap (λ f. least_of (aggregate_of_form f d s n.form n.place n.parts)) (sym c.in-Qualification.is))
    (c.refused_brackets-in-Qualification.ensures.refused d s.known ks knows)
