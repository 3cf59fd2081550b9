use Rattle.std.proofs.Common.{◌≡◌, ◌≤◌, ℕ, None, get_or, drop, length}
use Rattle.vd_call_rules.specs.Calls.{end_of}
use Rattle.vd_call_rules.proofs.functions.ends_by_number.Given as goal

abbrev pub invariant-loop-left : goal.invariant-loop-left
invariant-loop-left l = record {
  within : l.left ≤ length l.functions;
  filled : (k : ℕ) → get_or l.table.items k None ≡ end_of (drop l.left l.functions) k;
}

abbrev pub decreases-loop-left : goal.decreases-loop-left
decreases-loop-left l = l.left
