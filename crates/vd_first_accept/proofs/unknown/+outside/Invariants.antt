use Rattle.std.proofs.Common.{◌≡◌, ◌≤◌, ◌+◌, ◌*◌}
use Rattle.vd_forest.specs.Forest.{size}
use Rattle.vd_first_passes.specs.Lowering.{names_in}
use Rattle.vd_first_accept.specs.Unknown.{first_outside}
use Rattle.vd_first_accept.proofs.unknown.+outside.Given as goal

abbrev pub decreases-find_outside : goal.decreases-find_outside
decreases-find_outside l = 2 * size l.trees.now + 1

abbrev pub decreases-find_in_tree : goal.decreases-find_in_tree
decreases-find_in_tree l = 2 * size l.tree.now.parts + 2

abbrev pub invariant-find_outside-loop-first : goal.invariant-find_outside-loop-first
invariant-find_outside-loop-first l = record {
  smaller : size l.left ≤ size l.fn.trees;
  same : first_outside l.known (names_in l.left) ≡ first_outside l.known (names_in l.fn.trees);
}

abbrev pub decreases-find_outside-loop-first : goal.decreases-find_outside-loop-first
decreases-find_outside-loop-first l = size l.left
