use Rattle.std.proofs.Common.{◌≡◌, ℕ, ◌+◌, ◌-◌, None, get_or, length}
use Rattle.vd_structure_rules.proofs.tables.put.Given as goal

abbrev pub invariant-loop-table : goal.invariant-loop-table
invariant-loop-table g l = (k : ℕ) → get_or l.table.items k None ≡ get_or l.initial.table.items k None

abbrev pub decreases-loop-table : goal.decreases-loop-table
decreases-loop-table g l = l.place + 1 - length l.table.items
