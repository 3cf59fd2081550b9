use Rattle.std.proofs.Common.{ap, sym}
use Rattle.vd_meaning.specs.Facets.{nth}
use Rattle.vd_meaning.specs.Names.{attribute_named, attributed}
use Rattle.vd_static_nodes.proofs.attributes.attribute_piece.Goals as goal

pub returns-clause-node : goal.returns-clause-node
returns-clause-node c = λ g e ms is nodes.
    let store = g.subtypes.now in
    let mark = c.args.node.mark in
    c.piece.ensures.node store e ms (attributed (attribute_named (nth 0 ms).text) mark)
    (λ p. ap (λ name. attributed (attribute_named name) mark p) (sym (c.text_of.ensures store e ms nodes)))
