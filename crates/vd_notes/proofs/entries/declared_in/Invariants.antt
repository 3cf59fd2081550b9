use Rattle.std.proofs.Common.{◌≡◌, ◌++◌}
use Rattle.vd_notes.specs.Entries.{entries}
use Rattle.vd_notes.specs.Lefts.{all_left, work}
use Rattle.vd_notes.proofs.entries.declared_in.Given as goal

abbrev pub invariant-loop-next : goal.invariant-loop-next
invariant-loop-next l = l.found.items ++ all_left l.left.items ≡ entries l.fn.home l.text

abbrev pub decreases-loop-next : goal.decreases-loop-next
decreases-loop-next l = work l.left.items
