use Rattle.std.proofs.Common.{◌≡◌, ◌≤◌, ℕ, None, get_or, drop, length}
use Rattle.vd_structure_rules.specs.Loops.{loop_of}
use Rattle.vd_structure_rules.proofs.tables.loops_by_label.Given as goal

abbrev pub invariant-loop-left : goal.invariant-loop-left
invariant-loop-left l = record {
  within : l.left ≤ length l.loops;
  filled : (k : ℕ) → get_or l.table.items k None ≡ loop_of (drop l.left l.loops) k;
}

abbrev pub decreases-loop-left : goal.decreases-loop-left
decreases-loop-left l = l.left
