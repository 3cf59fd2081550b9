use Rattle.vd_meaning.specs.Facets.{nth}
use Rattle.vd_static_nodes.proofs.ElementLemmas.{for_others}
use Rattle.vd_static_nodes.proofs.elements.others_association.Goals as goal

pub returns-clause-node : goal.returns-clause-node
returns-clause-node c = λ g node text e ms seen are.
    let store = g.subtypes.now in
    let first = c.in_ok-sense.ensures.node store e ms are in
    record {
      sense = for_others store e c.in_ok-sense.field-0.sense (nth 0 ms) first.sense;
      piece = first.piece;
    }
