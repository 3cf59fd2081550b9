use Rattle.std.proofs.Common.{◌≡◌, ◌≤◌, ◌+◌, ◌*◌}
use Rattle.vd_forest.specs.Forest.{size}
use Rattle.vd_first_accept.specs.Unknown.{listed_names, with_all}
use Rattle.vd_first_accept.proofs.unknown.+listing.Given as goal

abbrev pub decreases-add_listed : goal.decreases-add_listed
decreases-add_listed l = 2 * size l.trees.now + 1

abbrev pub decreases-add_tree : goal.decreases-add_tree
decreases-add_tree l = 2 * size l.tree.now.parts + 2

abbrev pub invariant-add_listed-loop-first : goal.invariant-add_listed-loop-first
invariant-add_listed-loop-first l = record {
  smaller : size l.left ≤ size l.fn.trees;
  same : with_all l.ports (listed_names l.left) ≡ with_all l.fn.ports (listed_names l.fn.trees);
}

abbrev pub decreases-add_listed-loop-first : goal.decreases-add_listed-loop-first
decreases-add_listed-loop-first l = size l.left
