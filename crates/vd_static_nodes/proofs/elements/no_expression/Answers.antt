use Rattle.vd_static_nodes.proofs.ElementLemmas.{expression_missing}
use Rattle.vd_static_nodes.proofs.elements.no_expression.Goals as goal

pub returns-clause-expression : goal.returns-clause-expression
returns-clause-expression c = λ subtypes e ms none. expression_missing subtypes e ms c.absent-sense.result (c.absent-sense.ensures.node subtypes e) none
