use Rattle.std.proofs.Common.{◌≤◌, length}
use Rattle.vd_value_tests.proofs.fielding.long_record.Given as goal

abbrev pub invariant-loop-behind : goal.invariant-loop-behind
invariant-loop-behind l = l.made ≤ length l.store
