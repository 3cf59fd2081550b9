use Rattle.std.proofs.Common.{ap₂, slice_index_or, ◌∙◌}
use Rattle.vd_meaning.specs.Tables.{no_declaration}
use Rattle.vd_port_facts.proofs.NeedLemmas.{needs_answered}
use Rattle.vd_port_facts.proofs.facts.PortFacts.needed_names.Goals as goal

pub returns : goal.returns
returns c =
    needs_answered c.self.invariant c.args.self.now c.args.entity c.args.port c.args.parts.now
    c.name_of-name.result.now c.place_of-place.result c.entity_named-found.result c.deref.result.now c.deref-2.result.now c.deref-3.result.now
    c.names_found-names.result.now c.objects_found-objects.result.now c.defaults_found-defaults.result.now
    c.in_ok-actuals.actuals c.in_ok-lefts.lefts.items c.deref-4.result.now c.in_ok-needs.needs.items
    c.self.view_is
    (c.name_of-name.ensures ∙ ap₂ (λ ds n. (slice_index_or ds n no_declaration).name) c.declarations.ensures c.number.ensures)
    c.place_of-place.ensures c.entity_named-found.ensures
    c.deref.ensures.value c.names_found-names.ensures
    c.deref-2.ensures.value c.objects_found-objects.ensures
    c.deref-3.ensures.value c.defaults_found-defaults.ensures
    c.in_ok-actuals.ensures c.in_ok-lefts.ensures c.deref-4.ensures.value c.in_ok-needs.ensures
