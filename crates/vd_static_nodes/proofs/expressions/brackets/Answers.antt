use Rattle.vd_meaning.specs.Brackets.{bracketed_known, bracketed_value}
use Rattle.vd_static_nodes.proofs.expressions.brackets.Goals as goal

pub returns-clause-node : goal.returns-clause-node
returns-clause-node c = λ g e ms seen are.
    let store = g.subtypes.now in
    c.expression.ensures.node store e ms (bracketed_value c.args.node.mark ms) (bracketed_known ms) (c.bracketed_known.ensures store e ms are)
    (λ local given. c.in_ok-value.ensures store e ms c.args.node.mark given are local)
