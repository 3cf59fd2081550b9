use Rattle.std.proofs.Common.{◌≡◌, drop}
use Rattle.vd_regions.specs.Found.{is_given}
use Rattle.vd_regions.proofs.regions.Regions.is_given.Given as goal

abbrev pub invariant-loop-region : goal.invariant-loop-region
invariant-loop-region l = is_given l.self l.key.name.items (drop l.region-index l.regions) l.key.region ≡ is_given l.self l.key.name.items l.regions l.key.region
