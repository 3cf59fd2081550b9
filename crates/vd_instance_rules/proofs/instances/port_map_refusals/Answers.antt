use Rattle.std.proofs.Common.{ap, ◌∙◌, []}
use Rattle.vd_instance_rules.proofs.FirstLemmas.{joined_with}
use Rattle.vd_instance_rules.proofs.SameLemmas.{port_map_same}
use Rattle.vd_instance_rules.specs.Instances.{design_at, missing_broken, port_map_at, read_associations}
use Rattle.vd_value_rules.specs.Groups.{firsts_of}
use Rattle.vd_value_rules.specs.Actuals.{all_associations_broken, associations}
use Rattle.vd_instance_rules.proofs.instances.port_map_refusals.Goals as goal

pub returns-clause-refused : goal.returns-clause-refused
returns-clause-refused c = λ k ks knows.
    let x = c.args.instance.now in
    let d = design_at x in
    let m = port_map_at x in
    let ports = c.args.ports.now in
    let elements = c.args.elements.now in
    let ws = c.in_ok-associations.associations.items in
    c.together.ensures
    ∙ joined_with c.in_ok-broken.broken c.in_ok-missing.missing (all_associations_broken d k.env m [] (read_associations ws))
    (missing_broken d m (read_associations ws) ports elements)
    (c.in_ok-broken.ensures.refused k ks knows ∙ ap (λ l. firsts_of (all_associations_broken d k.env m [] (read_associations l))) c.deref.ensures.value)
    (c.in_ok-missing.ensures ∙ ap (λ l. firsts_of (missing_broken d m (read_associations l) ports elements)) c.deref-2.ensures.value)
    ∙ ap firsts_of (port_map_same d k.env m ws (associations d ports ports elements) ports elements c.in_ok-associations.ensures)
