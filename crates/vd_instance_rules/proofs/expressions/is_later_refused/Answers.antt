use Rattle.std.proofs.Common.{ap, sym, ◌∙◌}
use Rattle.vd_instance_rules.proofs.FirstLemmas.{found_same}
use Rattle.vd_instance_rules.specs.Instances.{design_at, port_map_at}
use Rattle.vd_trees.specs.declared.revision.Revision.{Revision}
use Rattle.vd_value_rules.specs.Actuals.{has_composite_generic, is_refused_later}
use Rattle.vd_instance_rules.proofs.expressions.is_later_refused.Goals as goal

pub returns-in-V2019 : goal.returns-in-V2019
returns-in-V2019 c = λ k ks knows.
    let d = design_at c.args.instance.now in
    let composite = has_composite_generic d k.env (port_map_at c.args.instance.now) c.args.port in
    found_same composite (is_refused_later d.revision composite) c.has_composite_generic.result
    (ap (λ (r : Revision). is_refused_later r composite) (sym c.in-V2019.is ∙ c.revision.ensures)) (c.has_composite_generic.ensures k ks knows)
