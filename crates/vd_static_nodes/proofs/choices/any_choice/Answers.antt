use Rattle.std.proofs.Common.{Ok, true}
use Rattle.vd_meaning.specs.Facets.{of_node}
use Rattle.vd_static_parts.proofs.NodeLemmas.{unseen}
use Rattle.vd_static_nodes.proofs.choices.any_choice.Goals as goal

pub returns-clause-node : goal.returns-clause-node
returns-clause-node c = λ g parts e ms seen are.
    let store = g.subtypes.now in
    let m = of_node c.args.node c.args.text.now ms in
    let node = c.plain.ensures.node store e ms in
    record {
      sense = unseen store e c.plain.result.sense m m.piece (λ _ _ _. Ok true) m.chosen m.texts m.numbers node.sense;
      piece = node.piece;
    }
