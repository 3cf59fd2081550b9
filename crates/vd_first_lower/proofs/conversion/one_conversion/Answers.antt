use Rattle.vd_first_lower.proofs.OneConversion.{one_conversion}
use Rattle.vd_first_lower.proofs.conversion.one_conversion.Goals as goal

pub returns : goal.returns
returns c = one_conversion
