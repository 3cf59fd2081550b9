use Rattle.std.proofs.Common.{◌≡◌, ◌<◌, ◌≤◌, ℕ, length, get_or}
use Rattle.vd_name_resolution.proofs.TableLemmas.{with_put}
use Rattle.vd_name_resolution.proofs.table.put.Given as goal

abbrev pub invariant-loop-number : goal.invariant-loop-number
invariant-loop-number l = record {
  above : l.first ≤ l.number;
  fits : l.header.end < l.number → l.number ≡ l.first;
  room : l.header.end ≤ length l.table.items;
  filled : (n : ℕ) → get_or l.table.items n n ≡ with_put l.first l.header.other l.number l.fn.table.items n;
}
