use Rattle.std.proofs.Common.{◌≡◌, [], ◌++◌, length, take, drop, refl, sym, ap, ◌∙◌, subst, arith}
use Rattle.vd_kernel.specs.Cycles.{cycle}
use Rattle.vd_kernel.specs.SignalValues.{nothing_given}
use Rattle.vd_kernel.proofs.Placings.{written_back}
use Rattle.vd_simulation.specs.Designs.{IsDesign}
use Rattle.vd_simulation.specs.Turns.{view_of}
use Rattle.vd_simulation.specs.Simulations.{Simulating, state_of, modelled, IsMoment}
use Rattle.vd_simulation.proofs.Steps.{cycles}
use Rattle.vd_simulation.proofs.simulation.Simulation.step.Goals as goal

pub returns-clause-step : goal.returns-clause-step
returns-clause-step g c = λ m is.
    let inside = c.self.inside in
    let old : Simulating g.row.P.Denot = record { time = inside.time; delta = inside.delta; net = inside.net; seen = inside.seen; processes = inside.processes.items; reports = inside.reports.items; end = inside.end } in
    let net = c.update.new.self in
    let v = inside.processes in
    let after = c.take_turns.new.processes in
    let long : length after ≡ v.len = omega (arith, c.take_turns.auto.processes, c.deref_mut.ensures.len) in
    let back = written_back v.len after (drop (length after) v.items) long in
    let new : Simulating g.row.P.Denot = record { time = c.args.now; delta = c.next_delta-self-inside.result; net = c.take_turns.new.net; seen = c.in_ok-seen.seen; processes = take v.len (after ++ drop (length after) v.items); reports = c.take_turns.new.reports.items; end = inside.end } in
    let signals = c.update.ensures.signals ∙ ap (λ (s : Simulating g.row.P.Denot). s.net.signals) c.self.view_is in
    let design = subst (IsDesign m) (sym signals) is in
    subst (λ s. IsMoment g.P.Process.state c.in_ok-stop.stop new (cycle (modelled m g.P.Process.step []) nothing_given (state_of g.P.Process.state s) c.args.now)) c.self.view_is
    (cycles g.P.Process.state g.P.Process.step m c.in_ok-stop.stop new (view_of c.in_ok-seen.seen) net.drivers c.deref_mut.result.now after back refl old c.args.now
    c.deref_mut.ensures.value c.update.ensures.drivers (c.in_ok-seen.ensures.view m design) refl c.next_delta-self-inside.ensures c.in_ok-stop.ensures.round)
