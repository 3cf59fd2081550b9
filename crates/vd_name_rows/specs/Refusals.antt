-- Rules that are broken, and where. Of two the one at the earlier place comes first, and at one place the one with the lesser number.
use Rattle.std.specs.Prelude.{ℕ, Bool, Option, Some, None, if◌then◌else◌}
use Rattle.vd_bytes.specs.declared.answers.Refused.{Refused}
use Rattle.vd_bytes.specs.declared.places.Place.{Place}
pub use Rattle.vd_walks.specs.Least.{lesser}

abbrev pub broken : ℕ → Place → Option Refused
broken rule place = Some (record { place = place; rule = rule })

abbrev pub broken_if : Bool → ℕ → Place → Option Refused
broken_if b rule place = if b then broken rule place else None
