-- Ranges, by what is known of them. (IEEE 1076, scalar types; subtype declarations.)
use Rattle.std.specs.Prelude.{List, None, Option, Some, ℕ, ℤ}
use Rattle.vd_composites.specs.Composites.{Value}
use Rattle.vd_composites.specs.Stops.{◌>>=◌}
use Rattle.vd_composites.specs.Subtypes.{Arrays, Records, Scalars, Subtype}
use Rattle.vd_composites.specs.declared.ranges.Bounds.{Bounds}
use Rattle.vd_environments.specs.Environments.{Env, Static}
use Rattle.vd_environments.specs.Got.{Got}
use Rattle.vd_meaning.specs.Facets.{Meaning, nth, of_node, value_of}
use Rattle.vd_meaning.specs.Names.{position_in, unless_stopped}
use Rattle.vd_resolved.specs.declared.node.Resolved.{Resolved}
use Rattle.vd_values.specs.declared.scalar.Scalar.{Scalar}

-- the position of a value, and of the value of a part
abbrev pub position_found : Got (Value Scalar) → Got ℤ
position_found v = v >>= position_in

abbrev pub position_at : ℕ → List Meaning → Env → Got ℤ
position_at n ms e = position_found (value_of (nth n ms) e)

-- what stands for a range and is so static, unless the range stops
abbrev pub ranging_so : Resolved → List ℕ → List Meaning → (Env → Got Bounds) → (Env → Static) → Meaning
ranging_so n text ms range kn = record (of_node n text ms) { range = Some range; known = λ e. unless_stopped (range e) (kn e) }

-- the range within which a constraint of a subtype lies
abbrev pub whole_range : Subtype → Option Bounds
whole_range (Scalars s) = Some s.range
whole_range (Arrays index None element) = Some index.range
whole_range (Arrays index (Some b) element) = None
whole_range (Records fields) = None
