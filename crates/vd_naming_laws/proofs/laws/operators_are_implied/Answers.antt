use Rattle.vd_naming_laws.proofs.Implied.{operator_implied}
use Rattle.vd_naming_laws.proofs.laws.operators_are_implied.Goals as goal

pub returns : goal.returns
returns c = operator_implied
