use Rattle.vd_readings.proofs.ReadingLaws.{readings_typed, typed_readings}
use Rattle.vd_readings.proofs.laws.readings_are_typed.Goals as goal

pub returns-clause-sound : goal.returns-clause-sound
returns-clause-sound c = readings_typed

pub returns-clause-complete : goal.returns-clause-complete
returns-clause-complete c = typed_readings
