use Rattle.std.proofs.Common.{◌≡◌, ◌++◌, drop}
use Rattle.std.specs.List.{filter}
use Rattle.vd_regions.specs.Found.{apart_from}
use Rattle.vd_regions.proofs.regions.Regions.add_apart.Given as goal

abbrev pub invariant-loop-number : goal.invariant-loop-number
invariant-loop-number l = l.found.items ++ filter (apart_from l.self l.others) (drop l.number-index l.some)
    ≡ l.fn.found.items ++ filter (apart_from l.self l.others) l.some
