use Rattle.std.proofs.Common.{◌≡◌, ◌≤◌, ℕ, None, is_some, get_or, drop, length}
use Rattle.vd_structure_rules.specs.Functions.{is_among}
use Rattle.vd_structure_rules.proofs.tables.bodies_by_number.Given as goal

abbrev pub invariant-loop-left : goal.invariant-loop-left
invariant-loop-left l = record {
  within : l.left ≤ length l.bodies;
  filled : (k : ℕ) → is_some (get_or l.table.items k None) ≡ is_among (drop l.left l.bodies) k;
}

abbrev pub decreases-loop-left : goal.decreases-loop-left
decreases-loop-left l = l.left
