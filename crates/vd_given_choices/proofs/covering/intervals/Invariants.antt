use Rattle.std.proofs.Common.{take}
use Rattle.vd_given_choices.specs.Covering.{AreIntervals}
use Rattle.vd_given_choices.proofs.covering.intervals.Given as goal

abbrev pub invariant-loop-one : goal.invariant-loop-one
invariant-loop-one l = AreIntervals l.found.items (take l.one-index l.bounds)
