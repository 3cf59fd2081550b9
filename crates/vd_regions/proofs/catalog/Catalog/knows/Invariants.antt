use Rattle.std.proofs.Common.{◌≡◌, length, drop}
use Rattle.vd_regions.specs.Indexes.{knows}
use Rattle.vd_regions.proofs.catalog.Catalog.knows.Given as goal

abbrev pub invariant-loop-parameter : goal.invariant-loop-parameter
invariant-loop-parameter l = knows (length l.self) (drop l.parameter-index l.parameters) ≡ knows (length l.self) l.parameters
