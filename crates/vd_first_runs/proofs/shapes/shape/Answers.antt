use Rattle.std.proofs.Common.{◌++◌, length, map, replicate, sym, ap, ◌∙◌, subst}
use Rattle.vd_kernel.specs.Orders.{shape_of, IsRingFree}
use Rattle.vd_kernel.specs.Simulated.{idle}
use Rattle.vd_first_elaboration.specs.Ports.{declared_ports}
use Rattle.vd_first_elaboration.specs.Elaboration.{inputs_from}
use Rattle.vd_first_runs.specs.Shapes.{connected, plain_driver}
use Rattle.vd_first_runs.proofs.ShapeLemmas.{signals_made, told_ring_free, kernel_design, drivers_made}
use Rattle.vd_first_runs.proofs.shapes.shape.Goals as goal

pub returns-clause-given : goal.returns-clause-given
returns-clause-given c =
    let ports = declared_ports c.args.declarations.now in
    let driven = c.args.driven.now in
    let signals = c.in_ok-connect.ensures ∙ ap (connected 0 driven) c.in_ok-scalars.ensures ∙ signals_made driven (length driven) c.args.count ports c.requires in
    let inside = c.in_ok-add_drivers.ensures ∙ ap (λ ds. ds ++ replicate (length driven) plain_driver) c.new-drivers.ensures.items in
    let drivers = c.in_ok-add_outside.ensures ∙ ap (λ ds. ds ++ replicate (length (inputs_from 0 ports)) plain_driver) inside in
    record { design = kernel_design driven ports c.connect.new.scalars.items signals; drivers_are = ap (map idle) drivers ∙ drivers_made driven ports }

pub returns-clause-ring_free : goal.returns-clause-ring_free
returns-clause-ring_free c =
    let ports = declared_ports c.args.declarations.now in
    let driven = c.args.driven.now in
    let signals = c.in_ok-connect.ensures ∙ ap (connected 0 driven) c.in_ok-scalars.ensures ∙ signals_made driven (length driven) c.args.count ports c.requires in
    subst (λ ss. IsRingFree (shape_of ss)) (sym signals) (told_ring_free driven (length driven) ports)
