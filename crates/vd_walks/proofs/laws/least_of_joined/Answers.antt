use Rattle.vd_walks.proofs.LeastLaws.{least_joined, least_joined_same}
use Rattle.vd_walks.proofs.laws.least_of_joined.Goals as goal

pub returns-clause-joined : goal.returns-clause-joined
returns-clause-joined g c = λ judge state f k. least_joined judge state f k

pub returns-clause-same_state : goal.returns-clause-same_state
returns-clause-same_state g c = λ judge keeps state f k. least_joined_same judge keeps state f k
