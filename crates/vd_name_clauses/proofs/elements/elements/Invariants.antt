use Rattle.std.proofs.Common.{◌≡◌, ◌≤◌, length}
use Rattle.vd_forest.specs.Forest.{size, turned}
use Rattle.vd_forest.specs.Store.{at, Extends}
use Rattle.vd_walks.specs.Least.{lesser}
use Rattle.vd_naming.specs.Views.{names_of_elements, missing_elements}
use Rattle.vd_name_clauses.proofs.elements.elements.Given as goal

-- with the names that are left, what is made becomes what is wanted
abbrev pub invariant-loop-node : goal.invariant-loop-node
invariant-loop-node l = record {
  made_in : l.made ≤ length l.out;
  extends : Extends l.fn.out l.out;
  same : turned (at l.out l.made) (names_of_elements l.names l.viewed l.left) ≡ names_of_elements l.names l.viewed l.fn.list;
  refused : lesser l.first (missing_elements l.names l.viewed l.left) ≡ missing_elements l.names l.viewed l.fn.list;
}

abbrev pub decreases-loop-node : goal.decreases-loop-node
decreases-loop-node l = size l.left
