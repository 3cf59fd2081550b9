use Rattle.std.proofs.Common.{◌≡◌, length, drop}
use Rattle.vd_regions.specs.Homographs.{same_types}
use Rattle.vd_name_actuals.proofs.profiles.same_types.Given as goal

abbrev pub invariant-loop-index : goal.invariant-loop-index
invariant-loop-index l = record {
  lengths : length l.one ≡ length l.other;
  same : same_types (drop l.index l.one) (drop l.index l.other) ≡ same_types l.one l.other;
}
