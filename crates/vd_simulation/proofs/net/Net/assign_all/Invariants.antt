use Rattle.std.proofs.Common.{◌≡◌, drop}
use Rattle.vd_kernel.specs.Drivers.{after_assignments}
use Rattle.vd_simulation.proofs.net.Net.assign_all.Given as goal

abbrev pub invariant-loop-assignment : goal.invariant-loop-assignment
invariant-loop-assignment l =
    record {
      signals : l.self.signals ≡ l.fn.self.signals;
      drivers : after_assignments l.self.drivers (drop l.assignment-index l.assignments) ≡ after_assignments l.fn.self.drivers l.assignments;
    }
