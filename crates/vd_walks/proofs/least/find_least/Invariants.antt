use Rattle.std.specs.List.{sum_by}
use Rattle.vd_walks.specs.Least.{least}
use Rattle.vd_walks.proofs.LeastLemmas.{IsLeft, work}
use Rattle.vd_walks.proofs.least.find_least.Given as goal

abbrev pub invariant-loop-last : goal.invariant-loop-last
invariant-loop-last g l = IsLeft (g.T.Judging.judge l.by) l.store l.left.items l.found (least (g.T.Judging.judge l.by) l.fn.state l.from)

abbrev pub decreases-loop-last : goal.decreases-loop-last
decreases-loop-last g l = sum_by (work (g.T.Judging.judge l.by) l.store) l.left.items
