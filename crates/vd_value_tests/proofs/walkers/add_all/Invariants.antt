use Rattle.std.proofs.Common.{◌≤◌, length}
use Rattle.vd_value_tests.proofs.walkers.add_all.Given as goal

abbrev pub invariant-loop-words : goal.invariant-loop-words
invariant-loop-words l = l.made ≤ length l.store
