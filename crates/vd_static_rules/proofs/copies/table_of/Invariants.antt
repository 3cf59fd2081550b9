use Rattle.std.proofs.Common.{◌≡◌, ◌≤◌, ℕ, drop, length}
use Rattle.std.specs.Prelude.{nat_eq}
use Rattle.std.specs.HashMap.{get}
use Rattle.vd_meaning.specs.Elaborations.{copied}
use Rattle.vd_static_rules.proofs.copies.table_of.Given as goal

abbrev pub invariant-loop-left : goal.invariant-loop-left
invariant-loop-left l = record {
  within : l.left ≤ length l.pairs;
  put : (n : ℕ) → get nat_eq l.table n ≡ copied (drop l.left l.pairs) n;
}

abbrev pub decreases-loop-left : goal.decreases-loop-left
decreases-loop-left l = l.left
