use Rattle.vd_meaning.specs.Brackets.{or_else}
use Rattle.vd_meaning.specs.Facets.{last_of}
use Rattle.vd_static_nodes.proofs.MarkLemmas.{declaring}
use Rattle.vd_static_nodes.proofs.marks.mark_name.Goals as goal

pub returns-clause-node : goal.returns-clause-node
returns-clause-node c = λ g e ms seen are.
    let store = g.subtypes.now in
    let node = c.plain-sense.ensures.node store e ms in
    record {
      sense =
          declaring store e c.plain-sense.result.sense c.args.node c.args.text.now ms c.named-declaration.result (or_else c.args.node.declaration (last_of ms).declaration) node.sense
          (c.named-declaration.ensures store e ms are);
      piece = node.piece;
    }
