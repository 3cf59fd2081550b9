use Rattle.std.proofs.Common.{◌≡◌, ◌++◌}
use Rattle.vd_walks.specs.Visits.{visited, all_visited, visits}
use Rattle.vd_walks.proofs.visits.visits.Given as goal

abbrev pub invariant-loop-next : goal.invariant-loop-next
invariant-loop-next g l = l.made.items ++ all_visited l.waiting.items ≡ visited l.fn.from

abbrev pub decreases-loop-next : goal.decreases-loop-next
decreases-loop-next g l = visits l.waiting.items
