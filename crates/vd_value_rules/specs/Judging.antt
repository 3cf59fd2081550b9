-- A refusal, where something holds.
use Rattle.std.specs.Prelude.{Bool, List, [], if◌then◌else◌, ℕ, ◌∷◌}
use Rattle.vd_bytes.specs.declared.answers.Refused.{Refused}
use Rattle.vd_bytes.specs.declared.places.Place.{Place}

abbrev pub refused_if : Bool → Place → ℕ → List Refused
refused_if b place rule = if b then record { place = place; rule = rule } ∷ [] else []
