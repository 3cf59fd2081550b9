use Rattle.std.proofs.Common.{◌≡◌, ◌≤◌, ℕ, drop, length}
use Rattle.std.specs.Prelude.{nat_eq}
use Rattle.std.specs.HashMap.{get}
use Rattle.vd_port_facts.specs.Tables.{first_place}
use Rattle.vd_port_facts.proofs.ports.ports_by_number.Given as goal

abbrev pub invariant-loop-left : goal.invariant-loop-left
invariant-loop-left l = record {
  within : l.left ≤ length l.ports;
  put : (n : ℕ) → get nat_eq l.places n ≡ first_place l.left (drop l.left l.ports) n;
}

abbrev pub decreases-loop-left : goal.decreases-loop-left
decreases-loop-left l = l.left
