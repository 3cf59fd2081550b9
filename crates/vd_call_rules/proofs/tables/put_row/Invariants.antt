use Rattle.std.proofs.Common.{◌≡◌, ℕ, ◌+◌, ◌-◌, None, get_or, length}
use Rattle.vd_call_rules.proofs.tables.put_row.Given as goal

abbrev pub invariant-loop-rows : goal.invariant-loop-rows
invariant-loop-rows l = (k : ℕ) → get_or l.rows.items k None ≡ get_or l.initial.rows.items k None

abbrev pub decreases-loop-rows : goal.decreases-loop-rows
decreases-loop-rows l = l.place + 1 - length l.rows.items
