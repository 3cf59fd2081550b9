use Rattle.std.proofs.Common.{◌≡◌, ℕ, ◌<◌, length, None}
use Rattle.std.specs.Prelude.{slice_index_or}
use Rattle.vd_kernel.specs.Cycles.{before_change}
use Rattle.vd_kernel.specs.SignalValues.{value_at}
use Rattle.vd_simulation.proofs.seen.changes.Given as goal

abbrev pub invariant-loop-i : goal.invariant-loop-i
invariant-loop-i l =
    record {
      long : length l.before.items ≡ l.i;
      known : (j : ℕ) → j < l.i → slice_index_or l.before.items j None ≡ before_change (value_at l.old j) (value_at l.new j) (value_at l.old j) (value_at l.new j);
    }
