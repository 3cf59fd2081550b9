use Rattle.std.proofs.Common.{◌≡◌, ◌≤◌, drop, false, length, nat_eq, reverse}
use Rattle.std.specs.HashMap.{get}
use Rattle.std.specs.Option.{unwrap_or}
use Rattle.vd_port_facts.specs.Needed.{AreMarks, needed_by}
use Rattle.vd_port_facts.proofs.needs.needed.Given as goal

abbrev pub invariant-loop-left : goal.invariant-loop-left
invariant-loop-left l = record {
  within : l.left ≤ length l.lefts;
  within_defaults : l.left ≤ length l.defaults;
  put : reverse l.found.items ≡ needed_by (drop l.left l.lefts) (drop l.left l.defaults) l.named;
  marked : AreMarks (λ k. unwrap_or (get nat_eq l.marks k) false) (reverse l.found.items);
}

abbrev pub decreases-loop-left : goal.decreases-loop-left
decreases-loop-left l = l.left
