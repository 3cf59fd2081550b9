use Rattle.vd_support_facts.proofs.Computed.{rotations}
use Rattle.vd_support_facts.proofs.facts.rotations_give.Goals as goal

pub returns : goal.returns
returns c = rotations
