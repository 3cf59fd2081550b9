use Rattle.std.proofs.Common.{◌≡◌}
use Rattle.vd_writing.specs.Pending.{pending}
use Rattle.vd_writing.proofs.stack.next_item.Given as goal

abbrev pub invariant-loop-step : goal.invariant-loop-step
invariant-loop-step l = (l.rows ≡ l.fn.rows) × (pending l.fn.rows l.fn.stack.items ≡ pending l.fn.rows l.stack.items)
