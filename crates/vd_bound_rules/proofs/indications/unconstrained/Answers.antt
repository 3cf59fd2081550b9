use Rattle.vd_bound_rules.proofs.SortLemmas.{unconstrained_found}
use Rattle.vd_bound_rules.proofs.indications.unconstrained.Goals as goal

pub returns-clause-is : goal.returns-clause-is
returns-clause-is c = λ d s ks knows.
    let n = c.args.node.now in
    unconstrained_found d s n.form.form n.place n.parts c.indication_of-indication.result c.in-Some.number c.in_ok-refused.refused c.place_of_refusal-place.result c.refused_if.result
    c.indication_of-indication.ensures c.in-Some.ensures (c.in_ok-refused.ensures.is d s ks knows) c.place_of_refusal-place.ensures c.refused_if.ensures
