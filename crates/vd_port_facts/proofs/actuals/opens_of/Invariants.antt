use Rattle.std.proofs.Common.{◌≡◌, ◌≤◌, ℕ, drop, length}
use Rattle.std.specs.Prelude.{nat_eq}
use Rattle.std.specs.HashMap.{get}
use Rattle.vd_port_facts.specs.Needed.{open_for}
use Rattle.vd_port_facts.proofs.actuals.opens_of.Given as goal

abbrev pub invariant-loop-left : goal.invariant-loop-left
invariant-loop-left l = record {
  within : l.left ≤ length l.listed;
  put : (n : ℕ) → get nat_eq l.opens n ≡ open_for (drop l.left l.listed) n;
}

abbrev pub decreases-loop-left : goal.decreases-loop-left
decreases-loop-left l = l.left
