use Rattle.std.proofs.Common.{◌≡◌}
use Rattle.vd_composites.specs.Composites.{count, joined}
use Rattle.vd_subtypes.specs.Stacks.{from_top}
use Rattle.vd_subtypes.proofs.defaults.record_of.Given as goal

abbrev pub invariant-loop-place : goal.invariant-loop-place
invariant-loop-place l = record {
  taken : count l.items ≡ l._place;
  same : joined l.items (from_top l.stack.items) ≡ from_top l.initial.stack.items;
}
