use Rattle.std.proofs.Common.{◌≡◌, ◌≤◌, ℕ, drop, length, get_or}
use Rattle.vd_naming.specs.Settled.{settled}
use Rattle.vd_name_resolution.proofs.table.table_of.Given as goal

abbrev pub invariant-loop-left : goal.invariant-loop-left
invariant-loop-left l = record {
  within : l.left ≤ length l.taken;
  settled : (n : ℕ) → get_or l.table.items n n ≡ settled (drop l.left l.taken) n;
}

abbrev pub decreases-loop-left : goal.decreases-loop-left
decreases-loop-left l = l.left
