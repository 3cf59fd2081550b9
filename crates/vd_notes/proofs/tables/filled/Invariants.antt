use Rattle.std.proofs.Common.{◌≡◌, ◌≤◌, drop, length}
use Rattle.vd_notes.specs.Entries.{table_of}
use Rattle.vd_notes.proofs.tables.filled.Given as goal

abbrev pub invariant-loop-left : goal.invariant-loop-left
invariant-loop-left l = record {
  within : l.left ≤ length l.found;
  filled : l.table.items ≡ table_of l.count (drop l.left l.found);
}

abbrev pub decreases-loop-left : goal.decreases-loop-left
decreases-loop-left l = l.left
