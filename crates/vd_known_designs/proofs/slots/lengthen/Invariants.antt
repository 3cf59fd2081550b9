use Rattle.std.proofs.Common.{◌≡◌, ◌+◌, ◌-◌, ◌≤◌, vec_len, ℕ}
use Rattle.vd_known_designs.specs.Slots.{by_number}
use Rattle.vd_known_designs.proofs.slots.lengthen.Given as goal

abbrev pub invariant-loop-alloc : goal.invariant-loop-alloc
invariant-loop-alloc g l = record {
  longer : vec_len l.initial.items ≤ vec_len l.items;
  same : (m : ℕ) → by_number g.T.Unknown.unknown l.items.items m ≡ by_number g.T.Unknown.unknown l.initial.items.items m;
}

abbrev pub decreases-loop-alloc : goal.decreases-loop-alloc
decreases-loop-alloc g l = l.number + 1 - vec_len l.items
