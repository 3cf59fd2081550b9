use Rattle.std.proofs.Common.{refl}
use Rattle.vd_meaning.specs.Facets.{expression, of_node}
use Rattle.vd_static_parts.proofs.NodeLemmas.{unseen}
use Rattle.vd_static_parts.proofs.nodes.plain.Goals as goal

-- as an expression it is one that stops
pub returns-clause-node : goal.returns-clause-node
returns-clause-node c = λ subtypes e ms.
    let n = c.args.node in
    let text = c.args.text.now in
    let m = of_node n text ms in
    let made = c.expression.ensures.node subtypes e ms m.value m.known c.never.ensures (λ local given. refl) in
    record {
      sense = unseen subtypes e c.expression.result.sense (expression n text ms m.value m.known) m.piece m.covers m.chosen m.texts m.numbers made.sense;
      piece = made.piece;
    }
