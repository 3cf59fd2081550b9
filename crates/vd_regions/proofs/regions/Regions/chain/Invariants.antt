use Rattle.std.proofs.Common.{◌≡◌, ◌++◌}
use Rattle.vd_regions.specs.Scopes.{chain, chain_of}
use Rattle.vd_regions.proofs.regions.Regions.chain.Given as goal

abbrev pub invariant-loop-left : goal.invariant-loop-left
invariant-loop-left l = l.regions.items ++ chain_of l.left l.self l.at ≡ chain l.self l.region

abbrev pub decreases-loop-left : goal.decreases-loop-left
decreases-loop-left l = l.left
