use Rattle.vd_meaning.specs.Facets.{of_node}
use Rattle.vd_static_parts.proofs.NodeLemmas.{opened}
use Rattle.vd_static_nodes.proofs.elements.open_actual.Goals as goal

pub returns-clause-node : goal.returns-clause-node
returns-clause-node c = λ g parts e ms seen are.
    let store = g.subtypes.now in
    let node = c.plain-sense.ensures.node store e ms in
    record {
      sense = opened store e c.plain-sense.result.sense (of_node c.args.node c.args.text.now ms) node.sense;
      piece = node.piece;
    }
