use Rattle.std.proofs.Common.{◌≡◌, ◌≤◌, ℕ, drop, length}
use Rattle.std.specs.Prelude.{nat_eq}
use Rattle.std.specs.HashMap.{get}
use Rattle.vd_port_modes.specs.Tables.{copied_before}
use Rattle.vd_port_modes.proofs.numbers.put_copies.Given as goal

abbrev pub invariant-loop-left : goal.invariant-loop-left
invariant-loop-left l = record {
  within : l.left ≤ length l.views;
  put : (n : ℕ) → get nat_eq l.table n ≡ copied_before l.instance l.copies l.left (drop l.left l.views) n (get nat_eq l.fn.table n);
}

abbrev pub decreases-loop-left : goal.decreases-loop-left
decreases-loop-left l = l.left
