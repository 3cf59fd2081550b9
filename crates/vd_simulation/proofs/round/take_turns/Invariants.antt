use Rattle.std.proofs.Common.{◌≡◌, take, map}
use Rattle.vd_kernel.specs.Cycles.{round}
use Rattle.vd_simulation.specs.Turns.{view_of}
use Rattle.vd_simulation.specs.Rounds.{paused, turn_in}
use Rattle.vd_simulation.proofs.RoundSteps.{prefixed, left}
use Rattle.vd_simulation.proofs.round.take_turns.Given as goal

-- the round is what has been done and then what is left
abbrev pub invariant-loop-i : goal.invariant-loop-i
invariant-loop-i g l =
    let pa = paused g.P.Process.state in
    let act = turn_in l.first g.P.Process.step (view_of l.seen) in
    record {
      signals : l.net.signals ≡ l.fn.net.signals;
      round : round 0 (map act (map pa l.fn.processes)) l.fn.net.drivers ≡ prefixed l.reports.items (map pa (take l.i l.processes)) (left pa act l.i l.processes l.net.drivers);
    }
