use Rattle.vd_naming_laws.specs.NumberLaws.{VisibleAreDeclared, InterpretationsNameDeclared}
use Rattle.vd_naming_laws.proofs.Sights.{seen_own}
use Rattle.vd_naming_laws.proofs.NumberReadings.{interpretation_named}
use Rattle.vd_naming_laws.proofs.number_laws.readings_name_declared.Goals as goal

visible : VisibleAreDeclared
visible p name sound = seen_own p sound name

interpreted : InterpretationsNameDeclared
interpreted p w tree reading sound is c = interpretation_named p sound w tree reading is c

pub returns-clause-visible : goal.returns-clause-visible
returns-clause-visible c = visible

pub returns-clause-interpretations : goal.returns-clause-interpretations
returns-clause-interpretations c = interpreted
