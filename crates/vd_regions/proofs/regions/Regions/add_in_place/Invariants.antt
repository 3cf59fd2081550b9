use Rattle.std.proofs.Common.{◌≡◌, ◌++◌, drop}
use Rattle.std.specs.List.{filter}
use Rattle.vd_regions.specs.Found.{in_place}
use Rattle.vd_regions.proofs.regions.Regions.add_in_place.Given as goal

abbrev pub invariant-loop-number : goal.invariant-loop-number
invariant-loop-number l = l.found.items ++ filter (in_place l.self l.functions) (drop l.number-index l.some)
    ≡ l.fn.found.items ++ filter (in_place l.self l.functions) l.some
