use Rattle.std.proofs.Common.{[], subst, sym}
use Rattle.vd_meaning.specs.Facets.{expression}
use Rattle.vd_static_values.specs.Entries.{IsFound}
use Rattle.vd_static_parts.proofs.NodeLemmas.{whole_sense}
use Rattle.vd_static_parts.proofs.nodes.named.Goals as goal

pub returns-clause-node : goal.returns-clause-node
returns-clause-node c = λ subtypes e p is.
    let n = c.args.node in
    let text = c.args.text.now in
    let own = c.expression-made.ensures.node subtypes e [] (λ _. p.value) p.known is.known
    (λ local given. subst (λ v. IsFound v (p.value e)) (sym c.in_ok-value.ensures) (is.value local)) in
    let made = c.with_name-sense.ensures.node subtypes e (expression n text [] (λ _. p.value) p.known) p own is in
    record { sense = whole_sense subtypes e c.with_name-sense.result.sense n text c.args.name.range p made.sense is.range; piece = made.piece }
