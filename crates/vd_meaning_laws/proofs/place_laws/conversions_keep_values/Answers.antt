use Rattle.vd_meaning_laws.proofs.Converting.{conversions_keep_values}
use Rattle.vd_meaning_laws.proofs.Keeping.{vectors_are_kept}
use Rattle.vd_meaning_laws.proofs.place_laws.conversions_keep_values.Goals as goal

pub returns-clause-expressions : goal.returns-clause-expressions
returns-clause-expressions c = conversions_keep_values

pub returns-clause-vectors : goal.returns-clause-vectors
returns-clause-vectors c = vectors_are_kept
