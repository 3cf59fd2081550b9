use Rattle.std.proofs.Common.{List, subst, ℕ}
use Rattle.vd_environments.specs.Environments.{always}
use Rattle.vd_meaning.specs.Facets.{nth}
use Rattle.vd_meaning.specs.Literals.{physical}
use Rattle.vd_meaning.specs.Names.{unless_stopped}
use Rattle.vd_static_values.specs.Entries.{IsFound}
use Rattle.vd_static_parts.proofs.StaticLemmas.{unless_found}
use Rattle.vd_static_nodes.proofs.literals.time_literal.Goals as goal

pub returns-clause-node : goal.returns-clause-node
returns-clause-node c = λ g e ms ground are.
    let store = g.subtypes.now in
    let digits = (nth 0 ms).text in
    let unit = (nth 1 ms).text in
    let x = c.in_ok-value.value in
    let found : IsFound x (physical digits unit) =
    subst (λ (u : List ℕ). IsFound x (physical digits u)) (c.text_of-2.ensures store e ms are)
    (subst (λ (d : List ℕ). IsFound x (physical d c.text_of-2.result.now)) (c.text_of.ensures store e ms are) c.in_ok-value.ensures) in
    let v = physical digits unit in
    c.expression.ensures.node store e ms (λ _ _. v) (λ _. unless_stopped v always)
    (unless_found x v c.is_some.result c.always.result c.unless_stopped-known.result always (λ local. found) c.is_some.ensures c.always.ensures c.unless_stopped-known.ensures)
    (λ local given. found)
