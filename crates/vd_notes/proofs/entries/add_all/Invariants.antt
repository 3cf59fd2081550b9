use Rattle.std.proofs.Common.{◌≡◌, ◌++◌}
use Rattle.vd_forest.specs.Forest.{size}
use Rattle.vd_notes.specs.Entries.{all_of}
use Rattle.vd_notes.proofs.entries.add_all.Given as goal

abbrev pub invariant-loop-first : goal.invariant-loop-first
invariant-loop-first l = l.found.items ++ all_of l.home l.mark l.rest ≡ l.fn.found.items ++ all_of l.home l.mark l.trees

abbrev pub decreases-loop-first : goal.decreases-loop-first
decreases-loop-first l = size l.rest
