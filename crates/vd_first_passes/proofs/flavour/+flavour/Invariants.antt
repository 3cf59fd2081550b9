use Rattle.std.proofs.Common.{◌≡◌, ◌≤◌, ◌+◌, ◌*◌, length}
use Rattle.vd_forest.specs.Forest.{size, turned}
use Rattle.vd_forest.specs.Store.{at, Extends}
use Rattle.vd_first_passes.specs.Flavour.{closed_by, flavoured}
use Rattle.vd_first_passes.proofs.flavour.+flavour.Given as goal

abbrev pub decreases-flavour_all : goal.decreases-flavour_all
decreases-flavour_all l = 3 * size l.from.now + 1

abbrev pub decreases-flavour_parts : goal.decreases-flavour_parts
decreases-flavour_parts l = 3 * size l.tree.now.parts + 2

abbrev pub decreases-close_unit : goal.decreases-close_unit
decreases-close_unit l = 3 * size l.from.now + 1

abbrev pub decreases-close_part : goal.decreases-close_part
decreases-close_part l = 3 * size l.tree.now.parts + 3

abbrev pub invariant-flavour_all-loop-first : goal.invariant-flavour_all-loop-first
invariant-flavour_all-loop-first l = record {
  smaller : size l.left ≤ size l.fn.from;
  made_in : l.made ≤ length l.out;
  extends : Extends l.fn.out l.out;
  same : turned (at l.out l.made) (flavoured l.left) ≡ flavoured l.fn.from;
}

abbrev pub decreases-flavour_all-loop-first : goal.decreases-flavour_all-loop-first
decreases-flavour_all-loop-first l = size l.left

abbrev pub invariant-close_unit-loop-first : goal.invariant-close_unit-loop-first
invariant-close_unit-loop-first l = record {
  smaller : size l.left ≤ size l.fn.from;
  made_in : l.made ≤ length l.out;
  extends : Extends l.fn.out l.out;
  same : turned (at l.out l.made) (closed_by (at l.fn.out l.identifier) (flavoured l.left)) ≡ closed_by (at l.fn.out l.identifier) (flavoured l.fn.from);
}

abbrev pub decreases-close_unit-loop-first : goal.decreases-close_unit-loop-first
decreases-close_unit-loop-first l = size l.left
