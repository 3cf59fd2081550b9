use Rattle.vd_walks.proofs.LeastLaws.{least_of_all, least_is}
use Rattle.vd_walks.proofs.laws.least_is_least.Goals as goal

pub returns-clause-of_all : goal.returns-clause-of_all
returns-clause-of_all g c = λ judge state f. least_of_all judge state f

pub returns-clause-is : goal.returns-clause-is
returns-clause-is g c = λ judge state f. least_is judge state f
