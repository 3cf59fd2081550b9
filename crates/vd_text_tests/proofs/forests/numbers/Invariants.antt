use Rattle.std.proofs.Common.{◌≤◌, length}
use Rattle.vd_text_tests.proofs.forests.numbers.Given as goal

abbrev pub invariant-loop-i : goal.invariant-loop-i
invariant-loop-i l = l.made ≤ length l.store
