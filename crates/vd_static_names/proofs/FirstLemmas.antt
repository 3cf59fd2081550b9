-- Ranges of subtypes.
use Rattle.std.proofs.Common.{◌≡◌, None, Ok, Option, Some, ap, option_map, sym}
use Rattle.vd_composites.specs.Stops.{◌>>=◌}
use Rattle.vd_composites.specs.Subtypes.{Subtype}
use Rattle.vd_composites.specs.declared.scalars.ScalarSubtype.{ScalarSubtype}
use Rattle.vd_environments.specs.Environments.{or_senseless}
use Rattle.vd_environments.specs.Got.{is_got}
use Rattle.vd_meaning.specs.Names.{range_of_subtype, scalars_of}
use Rattle.vd_static_values.specs.Entries.{IsFound}
use Rattle.vd_static_names.proofs.StopLemmas.{bind_stops}

-- a range of a subtype
pub range_in : (o : Option ScalarSubtype) (s : Subtype) → or_senseless o ≡ scalars_of s → IsFound (option_map (λ x. x.range) o) (range_of_subtype s)
range_in None s is = bind_stops (scalars_of s) (λ x. Ok x.range) (ap is_got (sym is))
range_in (Some x) s is = ap (λ g. g >>= λ y. Ok y.range) (sym is)
