use Rattle.vd_value_rules.proofs.Covering.{covering}
use Rattle.vd_value_rules.proofs.laws.covering_is_giving.Goals as goal

pub returns : goal.returns
returns c = covering
