use Rattle.std.proofs.Common.{◌≤◌, length}
use Rattle.vd_bench.proofs.forest.chain.Given as goal

abbrev pub invariant-loop-number : goal.invariant-loop-number
invariant-loop-number l = l.made ≤ length l.store
