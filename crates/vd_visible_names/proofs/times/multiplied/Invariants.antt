use Rattle.std.proofs.Common.{◌≤◌, length}
use Rattle.vd_forest.specs.Store.{Extends}
use Rattle.vd_visible_names.proofs.times.multiplied.Given as goal

abbrev pub invariant-loop-factor : goal.invariant-loop-factor
invariant-loop-factor l = record {
  within : l.made ≤ length l.out;
  extends : Extends l.fn.out l.out;
}
