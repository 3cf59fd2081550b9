-- The units that have what other units declare.
use Rattle.std.specs.Prelude.{Bool, false, true}
use Rattle.vd_value_rules.specs.Declaring.{Declaring, PackageInstance}

abbrev pub is_instance : Declaring → Bool
is_instance PackageInstance = true
is_instance _ = false
