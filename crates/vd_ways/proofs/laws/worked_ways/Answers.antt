use Rattle.vd_ways.proofs.WorkedLemmas.{worked}
use Rattle.vd_ways.proofs.laws.worked_ways.Goals as goal

pub returns : goal.returns
returns c = worked
