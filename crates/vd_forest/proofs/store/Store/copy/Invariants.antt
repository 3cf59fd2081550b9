use Rattle.std.proofs.Common.{◌≡◌, ◌≤◌, ◌+◌, ◌*◌, length}
use Rattle.vd_forest.specs.Forest.{size, turned}
use Rattle.vd_forest.specs.Store.{at, Extends}
use Rattle.vd_forest.proofs.CopyLemmas.{copied, AreOpen, waiting}
use Rattle.vd_forest.proofs.store.Store.copy.Given as goal

abbrev pub invariant-loop-left : goal.invariant-loop-left
invariant-loop-left g l = record {
  left_in : l.left ≤ length l.store;
  made_in : l.made ≤ length l.self;
  open_in : AreOpen l.store l.self l.pending.items;
  extends : Extends l.fn.self l.self;
  same : copied l.store l.self l.pending.items (turned (at l.self l.made) (at l.store l.left)) ≡ l.fn.from;
}

abbrev pub decreases-loop-left : goal.decreases-loop-left
decreases-loop-left g l = 2 * size (at l.store l.left) + waiting l.store l.pending.items
