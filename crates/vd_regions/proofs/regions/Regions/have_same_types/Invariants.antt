use Rattle.std.proofs.Common.{◌≡◌, length, map, drop}
use Rattle.vd_regions.specs.Homographs.{same_types, type_of}
use Rattle.vd_regions.proofs.regions.Regions.have_same_types.Given as goal

abbrev pub invariant-loop-index : goal.invariant-loop-index
invariant-loop-index l = record {
  lengths : length l.one ≡ length l.other;
  same : same_types (map (type_of l.self) (drop l.index l.one)) (map (type_of l.self) (drop l.index l.other))
      ≡ same_types (map (type_of l.self) l.one) (map (type_of l.self) l.other);
}
