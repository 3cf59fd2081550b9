use Rattle.std.proofs.Common.{◌≤◌, length}
use Rattle.vd_forest.specs.Store.{Extends}
use Rattle.vd_vector_conversions.proofs.records.add_fields.Given as goal

abbrev pub invariant-loop-field : goal.invariant-loop-field
invariant-loop-field l = record {
  value_in : l.value ≤ length l.out;
  made_in : l.made ≤ length l.out;
  extends : Extends l.fn.out l.out;
}
