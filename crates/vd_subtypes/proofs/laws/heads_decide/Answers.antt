use Rattle.std.proofs.Common.{ap}
use Rattle.vd_composites.specs.Stops.{◌>>=◌}
use Rattle.vd_composites.specs.Concatenations.{array_on}
use Rattle.vd_subtypes.proofs.PositionalLemmas.{each_by_head}
use Rattle.vd_subtypes.proofs.laws.heads_decide.Goals as goal

pub returns-clause-arrays : goal.returns-clause-arrays
returns-clause-arrays c index bounds element vs = ap (λ g. g >>= array_on index) (each_by_head element vs)
