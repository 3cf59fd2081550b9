use Rattle.vd_meaning.specs.Brackets.{arguments_piece}
use Rattle.vd_static_values.specs.Entries.{table_of}
use Rattle.vd_static_nodes.proofs.PieceLemmas.{are_arguments}
use Rattle.vd_static_nodes.proofs.brackets.arguments_piece.Goals as goal

pub returns-clause-node : goal.returns-clause-node
returns-clause-node c = λ e ms ground nodes.
    let store = c.args.ground.now.subtypes.now in
    let t = table_of c.args.ground.now in
    let n = c.args.node in
    c.piece.ensures.node store e ms (arguments_piece t n ms)
    (are_arguments store e t n ms (record { value = c.in_ok-value.value; known = c.first_known-known.result; otherwise = c.in_ok-otherwise.otherwise })
    (c.first_known-known.ensures store e ms nodes)
    (λ local. c.in_ok-value.ensures store e ms nodes local)
    (λ p. c.in_ok-otherwise.ensures.bracketed e ms p ground nodes))
