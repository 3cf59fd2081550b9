use Rattle.vd_meaning.specs.Meanings.{selection_piece}
use Rattle.vd_meaning.specs.Tables.{role_of}
use Rattle.vd_static_values.specs.Entries.{table_of}
use Rattle.vd_static_nodes.proofs.words.selection_piece.Goals as goal

pub returns-clause-node : goal.returns-clause-node
returns-clause-node c = λ parts e ms ground are.
    let t = table_of c.args.ground.now in
    c.piece.ensures.node c.args.ground.now.subtypes.now e ms (selection_piece (role_of t c.args.node.declaration) t c.args.node) (c.in_ok-made.ensures.piece e ground)
