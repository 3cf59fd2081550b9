use Rattle.std.proofs.Common.{◌∙◌, ap}
use Rattle.std.specs.Prelude.{None}
use Rattle.vd_meaning.specs.Hierarchies.{entity_in}
use Rattle.vd_instance_rules.specs.Instances.{design_at}
use Rattle.vd_port_modes.specs.Source.{Source, design_in}
use Rattle.vd_value_rules.specs.Actuals.{generic_actuals_of, named_in_ports, named_with_defaults, names_composite}
use Rattle.vd_value_rules.specs.Designs.{port_of}
use Rattle.vd_instance_rules.proofs.expressions.has_composite_generic.Goals as goal

pub returns : goal.returns
returns c = λ k ks knows.
    let x = c.args.instance.now in
    let d = design_at x in
    c.names_composite.ensures d k ks (d.table.declared x.entity).generics knows c.requires.instance.generics
    ∙ ap (names_composite k.env (d.table.declared x.entity).generics)
    (c.deref.ensures.value ∙ c.in_ok-names.ensures
    ∙ ap (λ (s : Source). named_with_defaults (entity_in None (design_in s).units.units ((design_in s).table.declared x.entity).name)
    (generic_actuals_of (design_in s) x.parts) (named_in_ports (port_of (design_in s) c.args.port))) c.requires.instance.same)
