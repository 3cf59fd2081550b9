use Rattle.std.proofs.Common.{◌≡◌, ◌≤◌, length, take, drop}
use Rattle.vd_forest.specs.Store.{Extends, Holds}
use Rattle.vd_shapes.specs.Shapes.{settled}
use Rattle.vd_shapes.specs.Standing.{trees_of, planted_all}
use Rattle.vd_shapes.proofs.entries.gather.Given as goal

abbrev pub invariant-loop-entries : goal.invariant-loop-entries
invariant-loop-entries l = record {
  base_in : l.base ≤ length l.entries.items;
  long : length l.entries.items ≤ length l.fn.entries.items;
  kept : l.entries.items ≡ take (length l.entries.items) l.fn.entries.items;
  extends : Extends l.fn.store l.store;
  holds : Holds l.store l.made (settled l.keep (planted_all (trees_of l.fn.store l.tokens (drop (length l.entries.items) l.fn.entries.items))));
}

abbrev pub decreases-loop-entries : goal.decreases-loop-entries
decreases-loop-entries l = length l.entries.items
