-- What evaluations before elaboration give.
use Rattle.std.specs.Prelude.{Err, None, Ok, Option, Some}
use Rattle.vd_composites.specs.Stops.{◌>>=◌}
use Rattle.vd_composites.specs.declared.ranges.Bounds.{Bounds}
use Rattle.vd_composites.specs.declared.scalars.ScalarSubtype.{ScalarSubtype}
use Rattle.vd_composites.specs.declared.scalars.ScalarType.{ScalarType}
use Rattle.vd_environments.specs.Got.{Got}

-- the value, where there is one
abbrev pub found : {A : Type 0} → Got A → Option A
found (Ok x) = Some x
found (Err halt) = None

-- the range of an index, where its type and its bounds are known
abbrev pub range_found : Got ScalarType → Got Bounds → Option ScalarSubtype
range_found of_type range = found (of_type >>= λ t. range >>= λ b. Ok (record { of_type = t; range = b }))
