use Rattle.std.proofs.Common.{◌≡◌, ◌≤◌, ℕ, List, drop, length}
use Rattle.vd_port_lists.specs.Named.{first_named, value_named}
use Rattle.vd_port_lists.proofs.elements.modes_by_name.Given as goal

abbrev pub invariant-loop-left : goal.invariant-loop-left
invariant-loop-left l = record {
  within : l.left ≤ length l.listed;
  put : (name : List ℕ) → value_named l.modes.entries (λ key. key.items) name ≡ first_named (drop l.left l.listed) name;
}

abbrev pub decreases-loop-left : goal.decreases-loop-left
decreases-loop-left l = l.left
