use Rattle.std.proofs.Common.{ap, sym}
use Rattle.vd_instance_rules.proofs.FirstLemmas.{found_same}
use Rattle.vd_instance_rules.specs.Instances.{design_at, port_map_at, read_association}
use Rattle.vd_port_associations.specs.Associations.{read_actual}
use Rattle.vd_meaning.specs.NodeFacets.{ByMode}
use Rattle.vd_port_lists.specs.Modes.{read_plain}
use Rattle.vd_port_lists.specs.declared.modes.Mode.{Mode}
use Rattle.vd_value_rules.specs.Groups.{firsts_of}
use Rattle.vd_value_rules.specs.Actuals.{actual_broken}
use Rattle.vd_instance_rules.proofs.modes.plain_refusals.Goals as goal

pub returns-in-Input-clause-refused : goal.returns-in-Input-clause-refused
returns-in-Input-clause-refused c = λ k ks knows.
    let x = c.args.instance.now in
    let a = read_association c.args.association.now in
    let s = read_actual c.args.actual.now in
    found_same _ _ c.input_refusals.result
    (ap (λ (m : Mode). firsts_of (actual_broken (design_at x) k.env (port_map_at x) c.args.port a (ByMode (read_plain m)) s)) (sym c.in-Input.is))
    (c.input_refusals.ensures.refused k ks knows)

pub returns-in-Output-clause-refused : goal.returns-in-Output-clause-refused
returns-in-Output-clause-refused c = λ k ks knows.
    let x = c.args.instance.now in
    let a = read_association c.args.association.now in
    let s = read_actual c.args.actual.now in
    found_same _ _ c.output_refusals.result
    (ap (λ (m : Mode). firsts_of (actual_broken (design_at x) k.env (port_map_at x) c.args.port a (ByMode (read_plain m)) s)) (sym c.in-Output.is))
    (c.output_refusals.ensures)

pub returns-in-BothWays-clause-refused : goal.returns-in-BothWays-clause-refused
returns-in-BothWays-clause-refused c = λ k ks knows.
    let x = c.args.instance.now in
    let a = read_association c.args.association.now in
    let s = read_actual c.args.actual.now in
    found_same _ _ c.output_refusals-in-BothWays.result
    (ap (λ (m : Mode). firsts_of (actual_broken (design_at x) k.env (port_map_at x) c.args.port a (ByMode (read_plain m)) s)) (sym c.in-BothWays.is))
    (c.output_refusals-in-BothWays.ensures)
