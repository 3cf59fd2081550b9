use Rattle.std.proofs.Common.{◌≡◌, ◌++◌, drop}
use Rattle.vd_regions.specs.Found.{round}
use Rattle.vd_regions.proofs.regions.Regions.add_round.Given as goal

abbrev pub invariant-loop-region : goal.invariant-loop-region
invariant-loop-region l = record {
  name : l.key.name.items ≡ l.fn.key.name.items;
  same : l.found.items ++ round l.self l.fn.key.name.items (drop l.region-index l.regions)
      ≡ l.fn.found.items ++ round l.self l.fn.key.name.items l.regions;
}
