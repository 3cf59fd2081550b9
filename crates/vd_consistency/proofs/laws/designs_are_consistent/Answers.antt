use Rattle.vd_consistency.proofs.Designs.{all_designs}
use Rattle.vd_consistency.proofs.laws.designs_are_consistent.Goals as goal

pub returns : goal.returns
returns c = all_designs
