-- Conversions and qualified expressions.
use Rattle.std.specs.Prelude.{Bool, false, true, ℕ}
use Rattle.vd_composites.specs.Composites.{Value}
use Rattle.vd_composites.specs.Stops.{◌>>=◌}
use Rattle.vd_environments.specs.Environments.{Env}
use Rattle.vd_environments.specs.Got.{Got}
use Rattle.vd_meaning.specs.Names.{whole_converted}
use Rattle.vd_static_values.specs.declared.names.KnownName.{KnownName}
use Rattle.vd_values.specs.declared.scalar.Scalar.{Scalar}

-- the value of a qualified expression
abbrev pub qualified_by : ℕ → (Env → Got (Value Scalar)) → Env → Got (Value Scalar)
qualified_by d operand e = operand e >>= whole_converted (e.denotes d).subtype

-- what is known of a conversion that may be tied through
abbrev pub known_through : Bool → Bool → KnownName → KnownName
known_through true is_whole x = record x { is_whole = is_whole }
known_through false is_whole x = x
