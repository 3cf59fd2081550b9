use Rattle.std.proofs.Common.{◌≡◌, drop}
use Rattle.vd_regions.specs.Found.{in_place}
use Rattle.vd_regions.proofs.regions.Regions.is_in_place.Given as goal

abbrev pub invariant-loop-function : goal.invariant-loop-function
invariant-loop-function l = in_place l.self (drop l.function-index l.functions) l.old ≡ in_place l.self l.functions l.old
