use Rattle.vd_choice_rules.proofs.StatementLemmas.{by_equality, by_matching}
use Rattle.vd_choice_rules.proofs.scalars.refused_of_scalars.Goals as goal

pub returns-in-None : goal.returns-in-None
returns-in-None c = λ d k ks s knows is.
    c.refused_scalars.ensures k.env s is (by_equality c.args.selecting.now s is c.in-None.is)

pub returns-in-Some : goal.returns-in-Some
returns-in-Some c = λ d k ks s knows is.
    c.refused_by_matching.ensures d k ks s knows is (by_matching c.args.selecting.now s is c.in-Some.of c.in-Some.is)
