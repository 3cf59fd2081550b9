use Rattle.std.proofs.Common.{map, sym, ap, ap₂, ◌∙◌}
use Rattle.std.specs.Prelude.{flat_map, option_to_list}
use Rattle.vd_kernel.specs.Cycles.{least, times, next_time}
use Rattle.vd_kernel.specs.Simulated.{earlier_of}
use Rattle.vd_kernel.proofs.EarliestTimes.{least_append}
use Rattle.vd_simulation.specs.Rounds.{paused}
use Rattle.vd_simulation.specs.Simulations.{state_of}
use Rattle.vd_simulation.proofs.simulation.Simulation.next_time.Goals as goal

pub returns : goal.returns
returns g c =
    let pa = paused g.P.Process.state in
    let net = c.self.inside.net in
    let ws = c.self.inside.processes.items in
    c.earlier.ensures
    ∙ ap₂ earlier_of c.next_time.ensures
    (c.earliest_timeout.ensures ∙ ap (λ xs. least (flat_map (λ p. option_to_list p.timeout) (map pa xs))) c.deref.ensures.value)
    ∙ sym (least_append (flat_map times net.drivers) (flat_map (λ p. option_to_list p.timeout) (map pa ws)))
    ∙ ap (λ s. next_time (state_of g.P.Process.state s)) c.self.view_is
