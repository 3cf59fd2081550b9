use Rattle.vd_derivations.proofs.DesignLemmas.{alone}
use Rattle.vd_derivations.proofs.laws.designs_are_alone.Goals as goal

pub returns : goal.returns
returns c = alone
