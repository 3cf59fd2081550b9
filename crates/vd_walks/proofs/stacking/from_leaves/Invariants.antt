use Rattle.std.proofs.Common.{◌≡◌, ◌≤◌, length, drop, reverse}
use Rattle.vd_forest.specs.Forest.{Forest}
use Rattle.vd_walks.specs.Trees.{AreForests, AreSound}
use Rattle.vd_walks.specs.Visits.{visited}
use Rattle.vd_walks.proofs.StackLemmas.{stacked}
use Rattle.vd_walks.proofs.stacking.from_leaves.Given as goal

abbrev pub invariant-loop-left : goal.invariant-loop-left
invariant-loop-left g l = record {
  within : l.left ≤ length l.forests.items;
  forests : l.forests.items ≡ visited l.from;
  are : AreForests (g.T.FromLeaves.comes_to l.fn.by) (stacked (drop l.left l.forests.items)) (reverse l.stack.items);
  kept : (f : Forest g.row.F.Denot) (s : g.row.S.Denot) → g.T.FromLeaves.comes_to l.fn.by f s → g.T.FromLeaves.comes_to l.by f s;
  as_before : (f : Forest g.row.F.Denot) (s : g.row.S.Denot) → g.T.FromLeaves.comes_to l.by f s → g.T.FromLeaves.comes_to l.fn.by f s;
  ready : g.T.FromLeaves.is_ready l.by;
  same : g.T.FromLeaves.frame l.by ≡ g.T.FromLeaves.frame l.fn.by;
  sound : AreSound (g.T.FromLeaves.is_sound l.by) l.stack.items;
}

abbrev pub decreases-loop-left : goal.decreases-loop-left
decreases-loop-left g l = l.left
