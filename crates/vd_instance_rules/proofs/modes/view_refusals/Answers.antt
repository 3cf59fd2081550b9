use Rattle.std.proofs.Common.{◌∙◌, ap, sym}
use Rattle.vd_instance_rules.proofs.FirstLemmas.{found_same}
use Rattle.vd_instance_rules.specs.Instances.{read_association, whole_or_disagrees}
use Rattle.vd_port_associations.specs.Associations.{read_actual}
use Rattle.vd_port_associations.specs.declared.actuals.ActualSort.{ActualSort}
use Rattle.vd_port_modes.specs.Readings.{read_oriented, read_reached}
use Rattle.vd_port_modes.specs.Source.{design_in}
use Rattle.vd_value_rules.specs.Groups.{firsts_of}
use Rattle.vd_value_rules.specs.Actuals.{view_broken}
use Rattle.vd_instance_rules.proofs.modes.view_refusals.Goals as goal

pub returns-in-NoActual : goal.returns-in-NoActual
returns-in-NoActual c =
    c.firsts_if.ensures ∙ ap (λ (s : ActualSort). firsts_of (view_broken (design_in c.args.interfaces.now) (read_oriented c.args.formal) (read_association c.args.association.now) (read_actual s))) (sym c.in-NoActual.is)

pub returns-in-SignalNamed : goal.returns-in-SignalNamed
returns-in-SignalNamed c =
    let d = design_in c.args.interfaces.now in
    let r = read_reached c.in-SignalNamed.name in
    found_same _ _ c.whole_or_disagreeing.result
    (ap (λ b. firsts_of (whole_or_disagrees b d (read_oriented c.args.formal) c.in-SignalNamed.place r)) c.is_part_of_view-is_whole.ensures
    ∙ ap (λ (s : ActualSort). firsts_of (view_broken (design_in c.args.interfaces.now) (read_oriented c.args.formal) (read_association c.args.association.now) (read_actual s))) (sym c.in-SignalNamed.is))
    c.whole_or_disagreeing.ensures

pub returns-in-SignalConverted : goal.returns-in-SignalConverted
returns-in-SignalConverted c =
    c.firsts_if-in-SignalConverted.ensures ∙ ap (λ (s : ActualSort). firsts_of (view_broken (design_in c.args.interfaces.now) (read_oriented c.args.formal) (read_association c.args.association.now) (read_actual s))) (sym c.in-SignalConverted.is)

pub returns-in-SignalPassed : goal.returns-in-SignalPassed
returns-in-SignalPassed c =
    c.firsts_if-in-SignalPassed.ensures ∙ ap (λ (s : ActualSort). firsts_of (view_broken (design_in c.args.interfaces.now) (read_oriented c.args.formal) (read_association c.args.association.now) (read_actual s))) (sym c.in-SignalPassed.is)

pub returns-in-AnExpression : goal.returns-in-AnExpression
returns-in-AnExpression c =
    c.firsts_if-in-AnExpression.ensures ∙ ap (λ (s : ActualSort). firsts_of (view_broken (design_in c.args.interfaces.now) (read_oriented c.args.formal) (read_association c.args.association.now) (read_actual s))) (sym c.in-AnExpression.is)
