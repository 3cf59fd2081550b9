use Rattle.std.proofs.Common.{◌≡◌, ◌++◌, drop, map}
use Rattle.vd_regions.specs.Scopes.{meant}
use Rattle.vd_regions.proofs.regions.Regions.meanings.Given as goal

abbrev pub invariant-loop-number : goal.invariant-loop-number
invariant-loop-number l = l.meanings.items ++ map (meant l.self) (drop l.number-index l.some) ≡ map (meant l.self) l.some
