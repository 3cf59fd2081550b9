use Rattle.std.proofs.Common.{length}
use Rattle.vd_shapes.proofs.CountLemmas.{IsCounting}
use Rattle.vd_shapes.proofs.growing.Growing.count_part.Given as goal

abbrev pub invariant-loop-top : goal.invariant-loop-top
invariant-loop-top l = IsCounting l.fn.self l.self

abbrev pub decreases-loop-top : goal.decreases-loop-top
decreases-loop-top l = length l.self.frames.items
