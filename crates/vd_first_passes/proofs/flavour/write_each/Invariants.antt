use Rattle.std.proofs.Common.{◌≡◌, ◌≤◌, length}
use Rattle.vd_forest.specs.Forest.{size, turned}
use Rattle.vd_forest.specs.Store.{at, Extends}
use Rattle.vd_first_passes.specs.Flavour.{each_port}
use Rattle.vd_first_passes.proofs.flavour.write_each.Given as goal

abbrev pub invariant-loop-first : goal.invariant-loop-first
invariant-loop-first l = record {
  made_in : l.newest ≤ length l.out;
  extends : Extends l.fn.out l.out;
  same : turned (each_port l.left (at l.fn.out l.mode_and_subtype)) (at l.out l.newest) ≡ turned (each_port l.fn.identifiers (at l.fn.out l.mode_and_subtype)) (at l.fn.out l.fn.made);
}

abbrev pub decreases-loop-first : goal.decreases-loop-first
decreases-loop-first l = size l.left
