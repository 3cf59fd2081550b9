use Rattle.std.proofs.Common.{false, refl}
use Rattle.vd_meaning.specs.Names.{RangeOf, attributed}
use Rattle.vd_static_nodes.proofs.attributes.range_piece.Goals as goal

pub returns-clause-node : goal.returns-clause-node
returns-clause-node c = λ g parts e ms is nodes. c.piece.ensures.node g.subtypes.now e ms (attributed (RangeOf false) c.args.node.mark) (λ p. refl)
