use Rattle.std.proofs.Common.{◌≡◌, ◌++◌, drop}
use Rattle.vd_call_rules.specs.Chains.{generics_of_all}
use Rattle.vd_call_rules.proofs.copies.generics_of_all.Given as goal

abbrev pub invariant-loop-copied : goal.invariant-loop-copied
invariant-loop-copied l = l.pairs.items ++ generics_of_all l.declarations (drop l.copied-index l.copies) ≡ generics_of_all l.declarations l.copies
