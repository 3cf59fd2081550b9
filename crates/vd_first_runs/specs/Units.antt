-- The units of a top, as the code finds them.
use Rattle.vd_first_elaboration.specs.Tops.{TopUnits}
use Rattle.vd_first_runs.specs.declared.units.Units.{Units}

abbrev pub own_units : Units → TopUnits
own_units u = record { entity = u.entity; architecture = u.architecture }
