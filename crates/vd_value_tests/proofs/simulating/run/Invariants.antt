use Rattle.std.proofs.Common.{◌≡◌, length}
use Rattle.vd_value_tests.proofs.simulating.run.Given as goal

abbrev pub invariant-loop : goal.invariant-loop
invariant-loop l = length l.simulation.net.signals ≡ 2
