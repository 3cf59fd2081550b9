use Rattle.vd_composites.proofs.FitLaws.{fits_once, defaults_fit}
use Rattle.vd_composites.proofs.laws.values_fit_once.Goals as goal

pub returns-clause-once : goal.returns-clause-once
returns-clause-once c = fits_once

pub returns-clause-defaults : goal.returns-clause-defaults
returns-clause-defaults c = defaults_fit
