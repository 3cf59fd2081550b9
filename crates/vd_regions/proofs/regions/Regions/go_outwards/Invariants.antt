use Rattle.std.proofs.Common.{◌≡◌}
use Rattle.vd_regions.specs.Runs.{IsRun, SeesAs}
use Rattle.vd_regions.proofs.regions.Regions.go_outwards.Given as goal

abbrev pub invariant-loop-left : goal.invariant-loop-left
invariant-loop-left l = record {
  name : l.key.name.items ≡ l.fn.key.name.items;
  run : IsRun l.self.regions l.run l.key.region;
  sees : SeesAs l.self l.fn.key.name.items l.fn.key.region l.key.region;
}

abbrev pub decreases-loop-left : goal.decreases-loop-left
decreases-loop-left l = l.left
