-- What is no object and no part of one.
use Rattle.std.specs.Prelude.{List, None, Option, Some, false, true, ℕ}
use Rattle.vd_composites.specs.Composites.{Value}
use Rattle.vd_composites.specs.Stops.{◌>>=◌}
use Rattle.vd_composites.specs.declared.ranges.Bounds.{Bounds}
use Rattle.vd_environments.specs.Environments.{Env, Signals, Static}
use Rattle.vd_environments.specs.Got.{Got}
use Rattle.vd_value_rules.specs.declared.statics.StaticSort.{StaticSort}
use Rattle.vd_meaning.specs.Names.{Named, no_name, shape_of_value, unless_stopped}
use Rattle.vd_static_values.specs.declared.names.KnownName.{KnownName}
use Rattle.vd_static_values.specs.declared.names.NameSubtype.TheVariants.{Stored}
use Rattle.vd_static_values.specs.declared.names.Ranging.{Ranging}
use Rattle.vd_values.specs.declared.scalar.Scalar.{Scalar}

abbrev pub known_value : Option (Value Scalar) → StaticSort → Option Bounds → Ranging → KnownName
known_value v k shape range =
    record {
      value = v;
      known = k;
      subtype = Stored 0;
      has_subtype = false;
      shape = shape;
      is_object = false;
      local_slices = true;
      is_mark = false;
      range = range;
      callee = None;
      is_signal = false;
      is_whole = false;
    }

-- the bounds of what may stop
abbrev pub bounds_behind : Got (Value Scalar) → Got Bounds
bounds_behind g = g >>= shape_of_value

-- a range of its own, as that of an attribute
abbrev pub range_named : (Env → Got Bounds) → Option ℕ → (Env → Static) → (Env → Got (List Signals)) → Named
range_named range mark known inner =
    record no_name { range = Some range; mark = mark; known = λ e. unless_stopped (range e) (known e); inner = inner }
