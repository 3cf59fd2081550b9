use Rattle.vd_gram.proofs.UniqueLemmas.{one_unplaced, one_derivation}
use Rattle.vd_gram.proofs.laws.one_derivation.Goals as goal

pub returns-clause-unplaced : goal.returns-clause-unplaced
returns-clause-unplaced c = one_unplaced

pub returns-clause-placed : goal.returns-clause-placed
returns-clause-placed c = one_derivation
