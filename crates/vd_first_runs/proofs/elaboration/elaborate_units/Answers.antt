use Rattle.std.proofs.Common.{length, sym, ap, ap₂, ◌∙◌}
use Rattle.vd_forest.specs.Forest.{parts_of, next_of, tree_count}
use Rattle.vd_first_elaboration.specs.Ports.{declared_ports}
use Rattle.vd_first_runs.specs.Designs.{elaborated_of}
use Rattle.vd_first_runs.specs.Elaborations.{limit_by}
use Rattle.vd_first_runs.specs.Units.{own_units}
use Rattle.vd_first_runs.proofs.DesignLemmas.{limit_same, ends_so, ok_implies, err_implies}
use Rattle.vd_first_runs.proofs.elaboration.elaborate_units.Goals as goal

pub returns-in-Some-clause-ends : goal.returns-in-Some-clause-ends
returns-in-Some-clause-ends c =
    let u = own_units c.args.units.now in
    let ports = c.parts-ports.ensures ∙ ap parts_of c.next.ensures in
    let processes = c.parts-processes.ensures ∙ ap parts_of (c.next-3.ensures ∙ ap next_of c.next-2.ensures) in
    limit_same u ∙ sym (c.limit_passed.ensures ∙ ap₂ (λ f g. limit_by (length (declared_ports f)) (tree_count g)) ports processes) ∙ c.in-Some.is

pub returns-in-Ok-clause-run : goal.returns-in-Ok-clause-run
returns-in-Ok-clause-run c =
    let u = own_units c.args.units.now in
    let ports = c.parts-ports.ensures ∙ ap parts_of c.next.ensures in
    let processes = c.parts-processes.ensures ∙ ap parts_of (c.next-3.ensures ∙ ap next_of c.next-2.ensures) in
    let within = limit_same u ∙ sym (c.limit_passed.ensures ∙ ap₂ (λ f g. limit_by (length (declared_ports f)) (tree_count g)) ports processes) ∙ c.in_default.is in
    ok_implies _ _ c.start.result c.start.ensures.run (λ run begun.
    let is = begun u c.in-Ok.ensures.design in record { within_limits = within; one_source = is.one_source; come = is.come })

pub returns-in-Ok-clause-going : goal.returns-in-Ok-clause-going
returns-in-Ok-clause-going c =
    ok_implies _ _ c.start.result c.start.ensures.going (λ run going. going (own_units c.args.units.now) c.in-Ok.ensures.design)

pub returns-in-Ok-clause-ends : goal.returns-in-Ok-clause-ends
returns-in-Ok-clause-ends c =
    let u = own_units c.args.units.now in
    let ports = c.parts-ports.ensures ∙ ap parts_of c.next.ensures in
    let processes = c.parts-processes.ensures ∙ ap parts_of (c.next-3.ensures ∙ ap next_of c.next-2.ensures) in
    let within = limit_same u ∙ sym (c.limit_passed.ensures ∙ ap₂ (λ f g. limit_by (length (declared_ports f)) (tree_count g)) ports processes) ∙ c.in_default.is in
    err_implies _ _ c.start.result c.start.ensures.ends (λ end ends. ends_so (elaborated_of u) end within (ends u c.in-Ok.ensures.design))
