use Rattle.vd_overloads.proofs.InterpretationLaws.{interpretations_typed, wanted_interpretations}
use Rattle.vd_overloads.proofs.laws.interpretations_are_typed.Goals as goal

pub returns-clause-sound : goal.returns-clause-sound
returns-clause-sound c = interpretations_typed

pub returns-clause-complete : goal.returns-clause-complete
returns-clause-complete c = wanted_interpretations
