use Rattle.std.proofs.Common.{◌≡◌, ◌≤◌, length}
use Rattle.vd_forest.specs.Forest.{size, turned}
use Rattle.vd_forest.specs.Store.{at, Extends}
use Rattle.vd_first_passes.specs.Flavour.{with_is}
use Rattle.vd_first_passes.proofs.flavour.write_is.Given as goal

abbrev pub invariant-loop-first : goal.invariant-loop-first
invariant-loop-first l = record {
  made_in : l.made ≤ length l.out;
  extends : Extends l.fn.out l.out;
  same : turned (at l.out l.made) (with_is l.left) ≡ with_is l.fn.from;
}

abbrev pub decreases-loop-first : goal.decreases-loop-first
decreases-loop-first l = size l.left
