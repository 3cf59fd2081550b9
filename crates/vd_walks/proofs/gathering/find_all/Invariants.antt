use Rattle.std.specs.List.{sum_by}
use Rattle.vd_walks.specs.Gathering.{all_found}
use Rattle.vd_walks.proofs.GatheringLemmas.{IsLeft, work}
use Rattle.vd_walks.proofs.gathering.find_all.Given as goal

abbrev pub invariant-loop-last : goal.invariant-loop-last
invariant-loop-last g l = IsLeft (g.T.Finding.finder l.by) l.store l.left.items l.found.items (all_found (g.T.Finding.finder l.by) l.fn.state l.from)

abbrev pub decreases-loop-last : goal.decreases-loop-last
decreases-loop-last g l = sum_by (work (g.T.Finding.finder l.by) l.store) l.left.items
