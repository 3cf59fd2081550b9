use Rattle.std.proofs.Common.{◌≡◌, ◌++◌, length, take, drop, map, refl, sym, ap, ◌∙◌, subst, arith}
use Rattle.vd_kernel.specs.Cycles.{initialised}
use Rattle.vd_kernel.specs.Traces.{unless_two, moment_on, trace_from}
use Rattle.vd_kernel.specs.SignalValues.{nothing_given}
use Rattle.vd_kernel.proofs.Placings.{written_back}
use Rattle.vd_simulation.specs.Designs.{IsDesign}
use Rattle.vd_simulation.specs.Rounds.{paused}
use Rattle.vd_simulation.specs.Turns.{view_of}
use Rattle.vd_simulation.specs.Simulations.{Simulating, modelled, stop_in, IsMoment}
use Rattle.vd_simulation.proofs.Steps.{begins}
use Rattle.vd_simulation.proofs.TracedSteps.{moment_traced}
use Rattle.vd_simulation.proofs.simulation.Simulation.new.Goals as goal

pub returns-clause-step : goal.returns-clause-step
returns-clause-step g c = λ m is.
    let net = c.in_ok-net.net in
    let states = map g.P.Process.state c.args.processes.items in
    let v = c.in_ok-waiting.waiting in
    let after = c.take_turns.new.processes in
    let long : length after ≡ v.len = omega (arith, c.take_turns.auto.processes, c.deref_mut.ensures.len) in
    let back = written_back v.len after (drop (length after) v.items) long in
    let new : Simulating g.row.P.Denot = record { time = 0; delta = 0; net = c.take_turns.new.net; seen = c.in_ok-seen.seen; processes = take v.len (after ++ drop (length after) v.items); reports = c.take_turns.new.reports.items; end = c.end_by.result } in
    let design = subst (IsDesign m) (sym c.in_ok-net.ensures.signals) is.design in
    let starts = ap (map (paused g.P.Process.state)) c.deref_mut.ensures.value ∙ c.in_ok-waiting.ensures in
    subst (λ stop. IsMoment g.P.Process.state stop new (initialised (modelled m g.P.Process.step states) nothing_given)) (sym c.end_by.ensures.stop)
    (begins g.P.Process.state g.P.Process.step m c.in_ok-stop.stop new (view_of c.in_ok-seen.seen) net.drivers c.deref_mut.result.now after back refl states
    starts (c.in_ok-net.ensures.drivers ∙ is.drivers_are) (c.in_ok-seen.ensures.view m design) refl refl c.in_ok-stop.ensures.round)

pub returns-clause-trace : goal.returns-clause-trace
returns-clause-trace g c = λ m is no_two n.
    let design = modelled m g.P.Process.step (map g.P.Process.state c.args.processes.items) in
    let v = c.in_ok-waiting.waiting in
    let after = c.take_turns.new.processes in
    let new : Simulating g.row.P.Denot = record { time = 0; delta = 0; net = c.take_turns.new.net; seen = c.in_ok-seen.seen; processes = take v.len (after ++ drop (length after) v.items); reports = c.take_turns.new.reports.items; end = c.end_by.result } in
    let rest = trace_from design nothing_given n in
    ap (λ two. unless_two two (moment_on (initialised design nothing_given) rest)) no_two
    ∙ moment_traced g.P.Process.state new (initialised design nothing_given) rest (stop_in c.end_by.result) (returns-clause-step g c m is)
