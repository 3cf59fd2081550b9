use Rattle.std.proofs.Common.{◌≡◌, drop}
use Rattle.vd_regions.specs.Runs.{nearest}
use Rattle.vd_regions.proofs.runs.nearest.Given as goal

abbrev pub invariant-loop-home : goal.invariant-loop-home
invariant-loop-home l = nearest l.to l.found (drop l.home-index l.homes) ≡ nearest l.to l.from l.homes
