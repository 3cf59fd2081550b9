use Rattle.vd_meaning.specs.Facets.{of_node}
use Rattle.vd_static_parts.proofs.NodeLemmas.{unseen}
use Rattle.vd_static_parts.proofs.nodes.piece.Goals as goal

pub returns-clause-node : goal.returns-clause-node
returns-clause-node c = λ subtypes e ms f is.
    let m = of_node c.args.node c.args.text.now ms in
    let made = c.plain-sense.ensures.node subtypes e ms in
    record { sense = unseen subtypes e c.plain-sense.result.sense m f m.covers m.chosen m.texts m.numbers made.sense; piece = is }
