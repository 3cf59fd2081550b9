use Rattle.vd_meaning.specs.Facets.{nth}
use Rattle.vd_static_parts.proofs.NodeLemmas.{opened}
use Rattle.vd_static_nodes.proofs.marks.open_index.Goals as goal

pub returns-clause-node : goal.returns-clause-node
returns-clause-node c = λ g node text e ms seen are.
    let store = g.subtypes.now in
    let first = c.in_ok-sense.ensures.node store e ms are in
    record {
      sense = opened store e c.in_ok-sense.field-0.sense (nth 0 ms) first.sense;
      piece = first.piece;
    }
