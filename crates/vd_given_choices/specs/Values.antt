-- Values that choices stand for.
use Rattle.std.specs.Prelude.{List, Ok, [], ◌∷◌}
use Rattle.vd_composites.specs.Composites.{Value}
use Rattle.vd_composites.specs.Stops.{◌>>=◌}
use Rattle.vd_environments.specs.Got.{Got}
use Rattle.vd_values.specs.declared.scalar.Scalar.{Scalar}

-- a value as the only one
abbrev pub alone : Got (Value Scalar) → Got (List (Value Scalar))
alone g = g >>= λ v. Ok (v ∷ [])
