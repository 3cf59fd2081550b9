use Rattle.std.proofs.Common.{◌∙◌, ap, not, sym}
use Rattle.vd_instance_rules.proofs.FirstLemmas.{found_same, joined_with}
use Rattle.vd_instance_rules.specs.Instances.{design_at, port_map_at, read_association, whole_or_disagrees}
use Rattle.vd_port_associations.specs.Associations.{read_actual}
use Rattle.vd_port_associations.specs.declared.actuals.ActualSort.{ActualSort}
use Rattle.vd_port_modes.specs.Readings.{read_oriented, read_reached}
use Rattle.vd_port_modes.specs.Source.{Source, design_in}
use Rattle.vd_value_rules.specs.Groups.{firsts_of}
use Rattle.vd_value_rules.specs.Judging.{refused_if}
use Rattle.vd_value_rules.specs.Actuals.{expression_broken, has_default, input_broken}
use Rattle.vd_value_rules.specs.Designs.{Oriented}
use Rattle.vd_value_rules.specs.Names.{broken_as_value, names_view_port}
use Rattle.vd_instance_rules.proofs.modes.input_refusals.Goals as goal

pub returns-in-NoActual-clause-refused : goal.returns-in-NoActual-clause-refused
returns-in-NoActual-clause-refused c = λ k ks knows.
    c.firsts_if.ensures
    ∙ ap (λ b. firsts_of (refused_if (not b) c.args.association.now.place 310))
    (c.has_default.ensures ∙ ap (λ (s : Source). has_default (design_in s) c.args.port) c.requires.instance.same)
    ∙ ap (λ (s : ActualSort). firsts_of (input_broken (design_at c.args.instance.now) k.env (port_map_at c.args.instance.now) c.args.port (read_association c.args.association.now) (read_actual s))) (sym c.in-NoActual.is)

pub returns-in-SignalNamed-clause-refused : goal.returns-in-SignalNamed-clause-refused
returns-in-SignalNamed-clause-refused c = λ k ks knows.
    let d = design_at c.args.instance.now in
    let r = read_reached c.in-SignalNamed.name in
    found_same _ _ c.whole_or_disagreeing.result
    (ap (λ b. firsts_of (whole_or_disagrees b d (read_oriented c.straight-formal.result) c.in-SignalNamed.place r)) c.names_view_port-is_whole.ensures
    ∙ ap (λ (o : Oriented). firsts_of (whole_or_disagrees (names_view_port d r) d o c.in-SignalNamed.place r)) c.straight-formal.ensures
    ∙ ap (λ (s : ActualSort). firsts_of (input_broken (design_at c.args.instance.now) k.env (port_map_at c.args.instance.now) c.args.port (read_association c.args.association.now) (read_actual s))) (sym c.in-SignalNamed.is))
    c.whole_or_disagreeing.ensures

pub returns-in-SignalConverted-clause-refused : goal.returns-in-SignalConverted-clause-refused
returns-in-SignalConverted-clause-refused c = λ k ks knows.
    c.firsts_if-in-SignalConverted.ensures ∙ ap (λ b. firsts_of (refused_if (not b) c.args.association.now.place 310)) c.is_vector.ensures
    ∙ ap (λ (s : ActualSort). firsts_of (input_broken (design_at c.args.instance.now) k.env (port_map_at c.args.instance.now) c.args.port (read_association c.args.association.now) (read_actual s))) (sym c.in-SignalConverted.is)

pub returns-in-SignalPassed-clause-refused : goal.returns-in-SignalPassed-clause-refused
returns-in-SignalPassed-clause-refused c = λ k ks knows.
    c.firsts_if-in-SignalPassed.ensures ∙ ap (λ (s : ActualSort). firsts_of (input_broken (design_at c.args.instance.now) k.env (port_map_at c.args.instance.now) c.args.port (read_association c.args.association.now) (read_actual s))) (sym c.in-SignalPassed.is)

pub returns-in_ok-expression-in-AnExpression-clause-refused : goal.returns-in_ok-expression-in-AnExpression-clause-refused
returns-in_ok-expression-in-AnExpression-clause-refused c = λ k ks knows.
    let d = design_at c.args.instance.now in
    let m = port_map_at c.args.instance.now in
    let a = read_association c.args.association.now in
    c.together.ensures
    ∙ joined_with c.as_value-read.result c.in_ok-expression-in-AnExpression.expression (broken_as_value d c.in-AnExpression.place (read_reached c.in-AnExpression.name))
    (expression_broken d k.env m c.args.port a) c.as_value-read.ensures (c.in_ok-expression-in-AnExpression.ensures.refused k ks knows)
    ∙ ap (λ (s : ActualSort). firsts_of (input_broken (design_at c.args.instance.now) k.env (port_map_at c.args.instance.now) c.args.port (read_association c.args.association.now) (read_actual s))) (sym c.in-AnExpression.is)
