use Rattle.vd_bound_rules.proofs.LengthLemmas.{given_without}
use Rattle.vd_bound_rules.proofs.aggregates.elements_given.Goals as goal

pub returns-clause-is : goal.returns-clause-is
returns-clause-is c = λ d k ks knows.
    given_without d k.env c.args.elements.now c.has_others.result c.has_others.ensures c.in_ok-named.named c.in_ok-total.total c.in_ok-positional.positional c.if-has_others.false
    (c.in_ok-named.ensures.is d k ks knows) (c.in_ok-positional.ensures d.table) c.in_ok-total.ensures
