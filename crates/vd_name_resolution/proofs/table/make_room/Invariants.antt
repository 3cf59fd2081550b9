use Rattle.std.proofs.Common.{◌≡◌, ◌-◌, ℕ, length, get_or}
use Rattle.vd_name_resolution.proofs.table.make_room.Given as goal

abbrev pub invariant-loop-table : goal.invariant-loop-table
invariant-loop-table l = (n : ℕ) → get_or l.table.items n n ≡ get_or l.fn.table.items n n

abbrev pub decreases-loop-table : goal.decreases-loop-table
decreases-loop-table l = l.end - length l.table.items
