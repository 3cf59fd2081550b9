use Rattle.std.proofs.Common.{[], option_to_list, ◌∷◌}
use Rattle.vd_meaning.specs.Facets.{of_node}
use Rattle.vd_meaning.specs.Names.{first_piece}
use Rattle.vd_static_values.specs.Entries.{table_of}
use Rattle.vd_static_nodes.proofs.LeafLemmas.{with_texts}
use Rattle.vd_static_nodes.proofs.words.word.Goals as goal

pub returns-clause-node : goal.returns-clause-node
returns-clause-node c = λ parts e ms ground are.
    let store = c.args.ground.now.subtypes.now in
    let node = c.args.node in
    let text = c.args.text.now in
    let p = first_piece (table_of c.args.ground.now) node in
    with_texts store e c.with_name.result (record (of_node node text ms) { name = p }) (text ∷ []) (option_to_list node.declaration)
    (c.with_name.ensures.node store e (of_node node text ms) p (c.plain.ensures.node store e ms) (c.in_ok-name.ensures.named e ground))
