use Rattle.std.proofs.Common.{◌≡◌, ◌≤◌, ◌+◌, length}
use Rattle.vd_forest.specs.Forest.{size, turned, tree_count}
use Rattle.vd_forest.specs.Store.{at, Extends}
use Rattle.vd_naming.specs.Expressions.{unresolved}
use Rattle.vd_name_rows.specs.Entering.{numbered}
use Rattle.vd_name_entering.proofs.lists.numbered.Given as goal

-- with the names that are left, what is made becomes what is wanted
abbrev pub invariant-loop-node : goal.invariant-loop-node
invariant-loop-node l = record {
  made_in : l.made ≤ length l.out;
  extends : Extends l.fn.out l.out;
  count : l.number + tree_count l.left ≡ l.fn.first + tree_count l.fn.list;
  same : turned (at l.out l.made) (numbered l.number (unresolved l.left)) ≡ numbered l.fn.first (unresolved l.fn.list);
}

abbrev pub decreases-loop-node : goal.decreases-loop-node
decreases-loop-node l = size l.left
