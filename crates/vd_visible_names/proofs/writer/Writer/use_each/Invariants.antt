use Rattle.std.proofs.Common.{◌≤◌, length}
use Rattle.vd_forest.specs.Store.{Extends}
use Rattle.vd_visible_names.proofs.writer.Writer.use_each.Given as goal

abbrev pub invariant-loop-name : goal.invariant-loop-name
invariant-loop-name l = record {
  within : l.made ≤ length l.out;
  extends : Extends l.fn.out l.out;
}
