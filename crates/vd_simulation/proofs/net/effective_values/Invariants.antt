use Rattle.std.proofs.Common.{◌≡◌, ℕ, ◌<◌, length}
use Rattle.vd_kernel.specs.SignalValues.{value_at}
use Rattle.vd_kernel.specs.Simulated.{effective_of}
use Rattle.vd_simulation.proofs.net.effective_values.Given as goal

abbrev pub invariant-loop-i : goal.invariant-loop-i
invariant-loop-i l =
    record {
      long : length l.values.items ≡ l.i;
      held : (j : ℕ) → j < l.i → value_at l.values.items j ≡ effective_of l.drivers j;
    }
