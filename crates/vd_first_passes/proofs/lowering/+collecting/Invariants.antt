use Rattle.std.proofs.Common.{◌≡◌, ◌≤◌, ◌+◌, ◌*◌, length}
use Rattle.vd_forest.specs.Forest.{size, turned}
use Rattle.vd_forest.specs.Store.{at, Extends}
use Rattle.vd_first_passes.specs.Lowering.{names_in, firsts, names_after}
use Rattle.vd_first_passes.proofs.lowering.+collecting.Given as goal

abbrev pub decreases-collect_names : goal.decreases-collect_names
decreases-collect_names l = 2 * size l.from.now + 1

abbrev pub decreases-collect_tree : goal.decreases-collect_tree
decreases-collect_tree l = 2 * size l.tree.now.parts + 2

-- with the names that are left, what is made becomes what is wanted
abbrev pub invariant-collect_names-loop-first : goal.invariant-collect_names-loop-first
invariant-collect_names-loop-first l = record {
  smaller : size l.left ≤ size l.fn.from;
  made_in : l.newest ≤ length l.out;
  extends : Extends l.fn.out l.out;
  same : turned (firsts l.seen (names_in l.left)) (at l.out l.newest) ≡ turned (firsts l.fn.seen (names_in l.fn.from)) (at l.fn.out l.fn.made);
  names : names_after l.seen (names_in l.left) ≡ names_after l.fn.seen (names_in l.fn.from);
}

abbrev pub decreases-collect_names-loop-first : goal.decreases-collect_names-loop-first
decreases-collect_names-loop-first l = size l.left
