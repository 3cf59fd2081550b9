use Rattle.std.proofs.Common.{◌≤◌, length}
use Rattle.vd_forest.specs.Store.{Extends}
use Rattle.vd_views.proofs.ports.Ports.trees.Given as goal

abbrev pub invariant-loop-element : goal.invariant-loop-element
invariant-loop-element l = record {
  made_in : l.made ≤ length l.out;
  extends : Extends l.fn.out l.out;
}
