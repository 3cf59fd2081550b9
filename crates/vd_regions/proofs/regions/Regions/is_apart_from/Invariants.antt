use Rattle.std.proofs.Common.{◌≡◌, drop}
use Rattle.vd_regions.specs.Found.{apart_from}
use Rattle.vd_regions.proofs.regions.Regions.is_apart_from.Given as goal

abbrev pub invariant-loop-other : goal.invariant-loop-other
invariant-loop-other l = apart_from l.self (drop l.other-index l.others) l.number ≡ apart_from l.self l.others l.number
