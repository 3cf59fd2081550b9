use Rattle.std.proofs.Common.{◌-◌}
use Rattle.vd_choices.proofs.Sweeps.{IsHalved}
use Rattle.vd_choices.proofs.intervals.first_repeated.Given as goal

abbrev pub invariant-loop-free : goal.invariant-loop-free
invariant-loop-free l = IsHalved l.choices l.free l.bound

abbrev pub decreases-loop-free : goal.decreases-loop-free
decreases-loop-free l = l.bound - l.free
