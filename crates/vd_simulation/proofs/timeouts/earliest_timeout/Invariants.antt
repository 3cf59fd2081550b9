use Rattle.std.proofs.Common.{◌≡◌, take, map}
use Rattle.std.specs.Prelude.{flat_map, option_to_list}
use Rattle.vd_kernel.specs.Cycles.{least}
use Rattle.vd_simulation.specs.Rounds.{paused}
use Rattle.vd_simulation.proofs.timeouts.earliest_timeout.Given as goal

abbrev pub invariant-loop-i : goal.invariant-loop-i
invariant-loop-i g l =
    l.earliest ≡ least (flat_map (λ p. option_to_list p.timeout) (map (paused g.P.Process.state) (take l.i l.processes)))
