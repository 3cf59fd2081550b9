use Rattle.vd_naming_laws.proofs.NumberNaming.{names_append, given_sound, names_sound}
use Rattle.vd_naming_laws.proofs.number_laws.names_stay_sound.Goals as goal

pub returns-clause-appended : goal.returns-clause-appended
returns-clause-appended c = names_append

pub returns-clause-given : goal.returns-clause-given
returns-clause-given c = given_sound

pub returns-clause-sound : goal.returns-clause-sound
returns-clause-sound c = names_sound
