use Rattle.std.proofs.Common.{◌≡◌}
use Rattle.vd_simulation.specs.Simulations.{state_of}
use Rattle.vd_first_processes.specs.Resolved.{itself}
use Rattle.vd_first_tracing.specs.Printing.{values_of}
use Rattle.vd_first_tracing.proofs.printing.shown_values.Given as goal

abbrev pub invariant-loop-i : goal.invariant-loop-i
invariant-loop-i l = l.values.items ≡ values_of (state_of itself l.run.simulation).view.shown 0 l.i
