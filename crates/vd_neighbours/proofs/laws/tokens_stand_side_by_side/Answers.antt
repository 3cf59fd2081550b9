use Rattle.vd_neighbours.proofs.SideLemmas.{side_by_side}
use Rattle.vd_neighbours.proofs.laws.tokens_stand_side_by_side.Goals as goal

pub returns : goal.returns
returns c = side_by_side
