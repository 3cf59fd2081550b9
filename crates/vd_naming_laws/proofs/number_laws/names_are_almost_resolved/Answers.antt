use Rattle.vd_naming_laws.proofs.Settling.{names_almost}
use Rattle.vd_naming_laws.proofs.number_laws.names_are_almost_resolved.Goals as goal

pub returns : goal.returns
returns c = names_almost
