use Rattle.vd_composites.proofs.FitLaws.{conversions_keep_values}
use Rattle.vd_composites.proofs.laws.conversions_keep_values.Goals as goal

pub returns : goal.returns
returns c = conversions_keep_values
