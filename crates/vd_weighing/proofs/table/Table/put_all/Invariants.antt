use Rattle.std.proofs.Common.{◌≡◌, ◌≤◌, length, take, map}
use Rattle.vd_weighing.specs.Copies.{copied}
use Rattle.vd_weighing.specs.Tables.{with_entries}
use Rattle.vd_weighing.proofs.table.Table.put_all.Given as goal

abbrev pub invariant-loop-left : goal.invariant-loop-left
invariant-loop-left l = record {
  within : l.left ≤ length l.numbers;
  so_far : with_entries l.self (map copied (take l.left l.numbers)) ≡ with_entries l.fn.self (map copied l.numbers);
}

abbrev pub decreases-loop-left : goal.decreases-loop-left
decreases-loop-left l = l.left
