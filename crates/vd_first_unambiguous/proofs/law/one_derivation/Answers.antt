use Rattle.vd_first_unambiguous.proofs.OneDerivation.{one_file}
use Rattle.vd_first_unambiguous.proofs.law.one_derivation.Goals as goal

pub returns : goal.returns
returns c = one_file
