use Rattle.std.proofs.Common.{◌∙◌, ◌∷◌, ap, ap₂, slice_index_or, subst, sym}
use Rattle.vd_forest.specs.Forest.{parts_of}
use Rattle.vd_instance_rules.proofs.InstanceLemmas.{instance_found}
use Rattle.vd_instance_rules.specs.Instances.{entity_at}
use Rattle.vd_known_designs.specs.Designs.{Knows}
use Rattle.vd_meaning.specs.Tables.{no_declaration}
use Rattle.vd_port_modes.specs.Source.{Source, design_in}
use Rattle.vd_value_rules.specs.Actuals.{generic_actuals_of}
use Rattle.vd_value_rules.specs.Choices.{place_or}
use Rattle.vd_instance_rules.proofs.instances.instance_refusals.Goals as goal

pub returns-in_ok-instance-in-EntityInstantiation-clause-finds : goal.returns-in_ok-instance-in-EntityInstantiation-clause-finds
returns-in_ok-instance-in-EntityInstantiation-clause-finds c = λ s ks knows around.
    let src = c.args.interfaces.now in
    let n = c.args.node.now in
    let x = c.in_ok-instance-in-EntityInstantiation.instance in
    let source = c.in_ok-instance-in-EntityInstantiation.ensures.source in
    instance_found src s n.place n.parts x n.form c.parameters_of-ports.result.now c.parts-elements.result c.port_map_refusals.result source
    (c.in_ok-instance-in-EntityInstantiation.ensures.map ∙ ap (λ l. record { entity = entity_at (design_in src).table n.parts; generic_actuals = generic_actuals_of (design_in src) n.parts; place = place_or l n.place }) (sym around.label))
    (c.parameters_of-ports.ensures
    ∙ ap₂ (λ ds k. (slice_index_or ds k no_declaration).parameters) c.declarations.ensures c.number.ensures) (c.parts-elements.ensures ∙ ap parts_of c.skip.ensures) c.in-EntityInstantiation.is
    (c.port_map_refusals.ensures.refused s.known ks (subst (λ (i : Source). Knows (design_in i) c.args.design.now (s.known ∷ ks)) (sym source) knows))
