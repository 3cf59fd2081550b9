use Rattle.std.proofs.Common.{◌≡◌, ◌++◌, ◌-◌, drop, length}
use Rattle.vd_call_rules.specs.Chains.{paired}
use Rattle.vd_call_rules.proofs.copies.add_paired.Given as goal

abbrev pub invariant-loop-k : goal.invariant-loop-k
invariant-loop-k l = l.pairs.items ++ paired (drop l.k l.originals) (drop l.k l.copies) ≡ l.initial.pairs.items ++ paired l.originals l.copies

abbrev pub decreases-loop-k : goal.decreases-loop-k
decreases-loop-k l = length l.originals - l.k
