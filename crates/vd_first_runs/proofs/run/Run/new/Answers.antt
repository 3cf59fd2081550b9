use Rattle.std.proofs.Common.{◌≡◌, length, refl, arith, ◌∙◌}
use Rattle.vd_forest.specs.Forest.{erased}
use Rattle.vd_kernel.specs.SignalValues.{nothing_given}
use Rattle.vd_first_elaboration.specs.Tops.{TopUnits}
use Rattle.vd_first_runs.specs.Designs.{elaborated_of}
use Rattle.vd_first_runs.specs.Places.{scope_at}
use Rattle.vd_first_runs.specs.Runs.{Running}
use Rattle.vd_first_runs.proofs.DesignLemmas.{has_begun}
use Rattle.vd_first_runs.proofs.RunLemmas.{first_goes_on, no_end}
use Rattle.vd_first_runs.proofs.run.Run.new.Goals as goal

pub returns-clause-come : goal.returns-clause-come
returns-clause-come c = λ u is.
    let design = c.args.design in
    let run : Running = record { paths = design.paths.items; scope = scope_at design.entity design.architecture; process_count = c.len-process_count.result; simulation = c.in_ok-simulation.simulation } in
    let count : run.process_count ≡ length design.processes.items = omega (arith, c.len-process_count.ensures, design.processes.ok.0) in
    has_begun u design run is refl refl count c.in_ok-simulation.ensures.signals (c.in_ok-simulation.ensures.step (elaborated_of u).model.shape is.given)

pub returns-clause-going : goal.returns-clause-going
returns-clause-going c = λ u is.
    let come = returns-clause-come c u is in
    let erased_units : TopUnits = record { entity = erased u.entity; architecture = erased u.architecture } in
    no_end c.in_ok-simulation.simulation come.own c.in_ok-simulation.simulation.end c.in_ok-simulation.ensures.end come.is_own
    (come.same.round.stop ∙ first_goes_on erased_units nothing_given)
