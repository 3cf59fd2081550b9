use Rattle.std.proofs.Common.{Ok}
use Rattle.vd_environments.specs.Environments.{always}
use Rattle.vd_meaning.specs.Literals.{integer, number}
use Rattle.vd_static_nodes.proofs.literals.number_literal.Goals as goal

pub returns-clause-node : goal.returns-clause-node
returns-clause-node c = λ g parts e ms ground are.
    c.expression.ensures.node g.subtypes.now e ms (λ _ _. Ok (integer (number c.args.text.now))) (λ _. always) c.always.ensures (λ local given. c.in_ok-value.ensures)
