use Rattle.std.proofs.Common.{◌≡◌, ◌≤◌, ◌+◌, ◌*◌, length}
use Rattle.vd_forest.specs.Forest.{size}
use Rattle.vd_forest.specs.Store.{at, Extends}
use Rattle.vd_rewriting.specs.Inheriting.{rewritten_under}
use Rattle.vd_rewriting.proofs.InheritingLemmas.{IsAtHand, steps}
use Rattle.vd_rewriting.proofs.inheriting.rewrite_under.Given as goal

abbrev pub invariant-loop-left : goal.invariant-loop-left
invariant-loop-left g l = record {
  left_in : l.left ≤ length l.store;
  made_in : l.made ≤ length l.out;
  extends : Extends l.fn.out l.out;
  same_rules : g.P.Inheriting.rules l.by ≡ g.P.Inheriting.rules l.fn.by;
  hand : IsAtHand (g.P.Inheriting.rules l.fn.by) l.store l.out l.waiting.items l.left l.made l.here (rewritten_under (g.P.Inheriting.rules l.fn.by) l.fn.state l.fn.from);
}

abbrev pub decreases-loop-left : goal.decreases-loop-left
decreases-loop-left g l = 3 * size (at l.store l.left) + steps (g.P.Inheriting.rules l.fn.by) l.store l.waiting.items
