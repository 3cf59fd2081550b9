use Rattle.std.proofs.Common.{ap, sym, ◌∙◌}
use Rattle.vd_instance_rules.proofs.FirstLemmas.{found_same}
use Rattle.vd_instance_rules.specs.Instances.{design_at, port_map_at, read_association}
use Rattle.vd_port_associations.specs.Associations.{read_actual}
use Rattle.vd_port_lists.specs.Modes.{read_mode}
use Rattle.vd_port_lists.specs.declared.modes.PortMode.{PortMode}
use Rattle.vd_value_rules.specs.Groups.{firsts_of}
use Rattle.vd_value_rules.specs.Actuals.{actual_broken, view_broken}
use Rattle.vd_value_rules.specs.Designs.{Oriented, straight}
use Rattle.vd_instance_rules.proofs.modes.actual_refusals.Goals as goal

pub returns-in-Plain-clause-refused : goal.returns-in-Plain-clause-refused
returns-in-Plain-clause-refused c = λ k ks knows.
    let x = c.args.instance.now in
    let a = read_association c.args.association.now in
    let s = read_actual c.args.actual.now in
    found_same _ _ c.plain_refusals.result
    (ap (λ (m : PortMode). firsts_of (actual_broken (design_at x) k.env (port_map_at x) c.args.port a (read_mode m) s)) (sym c.in-Plain.is))
    (c.plain_refusals.ensures.refused k ks knows)

pub returns-in-ByView-clause-refused : goal.returns-in-ByView-clause-refused
returns-in-ByView-clause-refused c = λ k ks knows.
    let x = c.args.instance.now in
    let a = read_association c.args.association.now in
    let s = read_actual c.args.actual.now in
    found_same _ _ c.view_refusals.result
    (ap (λ (o : Oriented). firsts_of (view_broken (design_at x) o a s)) c.straight.ensures
    ∙ ap (λ (m : PortMode). firsts_of (view_broken (design_at x) (straight (read_mode m)) a s)) c.in-ByView.is
    ∙ ap (λ (m : PortMode). firsts_of (actual_broken (design_at x) k.env (port_map_at x) c.args.port a (read_mode m) s)) (sym c.in-ByView.is))
    c.view_refusals.ensures
