use Rattle.std.proofs.Common.{◌≡◌, map}
use Rattle.vd_simulation.specs.Rounds.{paused, begun}
use Rattle.vd_simulation.proofs.timeouts.beginning.Given as goal

abbrev pub invariant-loop-process : goal.invariant-loop-process
invariant-loop-process g l = map (paused g.P.Process.state) l.waiting.items ≡ map begun (map g.P.Process.state l.yielded)
