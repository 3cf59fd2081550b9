use Rattle.std.proofs.Common.{◌<◌, length, get_or, ap, ◌∙◌, arith}
use Rattle.vd_kernel.specs.Simulated.{earlier_of}
use Rattle.vd_simulation.specs.Rounds.{paused}
use Rattle.vd_simulation.proofs.EarliestTimeouts.{timeouts_more}
use Rattle.vd_simulation.proofs.timeouts.earliest_timeout.Goals as goal

pub loop-i-preserved : goal.loop-i-preserved
loop-i-preserved g c =
    let ws = c.args.processes.now in
    let w = get_or ws c.loop-i.i c.index-processes-i.result in
    let at = ap (get_or ws c.loop-i.i) c.index-processes-i.is in
    let within : c.loop-i.i < length ws = omega arith in
    c.earlier-earliest.ensures
    ∙ ap (λ t. earlier_of t w.timeout) c.loop-i.invariant
    ∙ timeouts_more (paused g.P.Process.state) c.loop-i.i ws w within at
