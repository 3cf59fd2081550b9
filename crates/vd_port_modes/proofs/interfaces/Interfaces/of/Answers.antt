use Rattle.std.proofs.Common.{ap, ap₂, map, ◌∙◌}
use Rattle.vd_port_modes.specs.Counts.{view_count}
use Rattle.vd_port_modes.specs.Source.{copies_there}
use Rattle.vd_port_modes.specs.Tables.{first_listed, found_in}
use Rattle.vd_port_modes.proofs.TableLemmas.{are_tables}
use Rattle.vd_port_modes.proofs.interfaces.Interfaces.of.Goals as goal

pub invariant_of-result : goal.invariant_of-result
invariant_of-result c =
    are_tables c.args.revision c.args.tree.now c.in_ok-ports.ports.items c.in_ok-views.views.items c.in_ok-instances.instances.items c.in_ok-copies.copies.items _ _ c.in_ok-count.count
    c.in_ok-ports.ensures c.in_ok-views.ensures c.in_ok-instances.ensures
    (c.in_ok-copies.ensures ∙ ap₂ (λ ds xs. map (copies_there ds) xs) c.declarations.ensures c.deref.ensures.value)
    (λ n. c.in_ok-modes.ensures n ∙ ap (λ xs. first_listed xs n) c.deref-2.ensures.value)
    (λ n. c.in_ok-found.ensures n ∙ ap₂ (λ vs all. found_in vs all n) c.deref-3.ensures.value c.deref-4.ensures.value)
    (c.in_ok-count.ensures ∙ ap₂ (λ vs all. view_count vs all) c.deref-5.ensures.value c.deref-6.ensures.value)
