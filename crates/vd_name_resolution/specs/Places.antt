-- What is known at the place behind a form, by what was known in front of it and of its parts.
use Rattle.std.specs.Prelude.{suc, ◌==◌, if◌then◌else◌}
use Rattle.vd_predefined.specs.declared.numbers.TheConstants.{REGION_OF_LIBRARIES}
use Rattle.vd_name_rows.specs.Designs.{At, Design}
use Rattle.vd_name_rows.specs.Members.{next_number}
use Rattle.vd_name_rows.specs.declared.steps.Ending.{Ending}
use Rattle.vd_name_rows.specs.declared.steps.Ending.TheVariants as ending
use Rattle.vd_naming.specs.Endings.{behind}

abbrev pub unit_counted : At → At
unit_counted at = if at.region == REGION_OF_LIBRARIES then record at { unit = suc at.unit } else at

abbrev pub place_behind : Design → Ending → At → At → At
place_behind d ending.Typed outer inner = record (behind outer inner) { next = inner.next }
place_behind d ending.ClauseEnds outer inner = record (behind outer inner) { header_end = next_number d }
place_behind d ending.UnitEnds outer inner = unit_counted (behind outer inner)
place_behind d _ outer inner = behind outer inner
