use Rattle.std.proofs.Common.{◌≡◌, ℕ, ◌<◌, ◌≤◌}
use Rattle.vd_kernel.specs.Histories.{history_after, history_at}
use Rattle.vd_kernel.specs.SignalValues.{value_at}
use Rattle.vd_kernel.proofs.histories.note_changes.Given as goal

abbrev pub invariant-loop-i : goal.invariant-loop-i
invariant-loop-i l =
    record {
      told : (j : ℕ) → j < l.i → history_at l.histories j ≡ history_after (value_at l.old j) (value_at l.new j) (history_at l.fn.histories j);
      same : (j : ℕ) → l.i ≤ j → history_at l.histories j ≡ history_at l.fn.histories j;
    }
