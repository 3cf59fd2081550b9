use Rattle.std.proofs.Common.{None, ap, ◌∙◌}
use Rattle.vd_port_facts.specs.Tables.{first_place, last_place}
use Rattle.vd_port_facts.proofs.TableLemmas.{are_facts}
use Rattle.vd_port_facts.proofs.facts.PortFacts.of.Goals as goal

pub invariant_of-result : goal.invariant_of-result
invariant_of-result c =
    are_facts c.args.revision c.args.tree.now c.in_ok-ports.ports.items c.in_ok-entities.entities.items _ _
    c.in_ok-ports.ensures c.in_ok-entities.ensures
    (λ n. c.in_ok-places.ensures n ∙ ap (λ xs. first_place 0 xs n) c.deref.ensures.value)
    (λ name. c.in_ok-named.ensures name ∙ ap (λ xs. last_place None 0 xs name) c.deref-2.ensures.value)
