use Rattle.std.proofs.Common.{◌≤◌, length}
use Rattle.vd_value_tests.proofs.readings.chain.Given as goal

abbrev pub invariant-loop : goal.invariant-loop
invariant-loop l = l.made ≤ length l.store
