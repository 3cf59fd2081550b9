use Rattle.vd_environments.specs.Environments.{Env, all_bounds}
use Rattle.vd_meaning.specs.Facets.{expression}
use Rattle.vd_meaning.specs.Meanings.{string_value}
use Rattle.vd_meaning.specs.Names.{first_piece, number_or, unless_stopped}
use Rattle.vd_static_values.specs.Entries.{table_of}
use Rattle.vd_static_parts.proofs.StaticLemmas.{unless_found}
use Rattle.vd_static_nodes.proofs.literals.string_literal.Goals as goal

pub returns-clause-node : goal.returns-clause-node
returns-clause-node c = λ parts e ms ground are.
    let store = c.args.ground.now.subtypes.now in
    let node = c.args.node in
    let text = c.args.text.now in
    let v = string_value node text in
    let bounds = λ (f : Env). all_bounds (f.denotes (number_or node.mark)).make in
    let known = λ (f : Env). unless_stopped (v f) (bounds f) in
    let found = c.in_ok-value.ensures e ground in
    c.with_name.ensures.node store e (expression node text ms (λ _. v) known) (first_piece (table_of c.args.ground.now) node)
    (c.expression.ensures.node store e ms (λ _. v) known
    (unless_found c.in_ok-value.value (v e) c.is_some.result c.bounds_known.result c.unless_stopped-known.result (bounds e) (λ local. found) c.is_some.ensures
    (c.bounds_known.ensures e ground) c.unless_stopped-known.ensures)
    (λ local given. found))
    (c.in_ok-name.ensures.named e ground)
