use Rattle.std.proofs.Common.{◌≡◌, drop, map}
use Rattle.vd_name_instances.specs.Copied.{seen_region, with_regions}
use Rattle.vd_name_instances.proofs.adding.add_regions.Given as goal

abbrev pub invariant-loop-region : goal.invariant-loop-region
invariant-loop-region l = with_regions (map seen_region (drop l.region-index l.regions)) l.names ≡ with_regions (map seen_region l.regions) l.fn.names
