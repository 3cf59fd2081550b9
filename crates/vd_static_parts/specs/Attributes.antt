-- Attributes, and the values that they have of what is known.
use Rattle.std.specs.Prelude.{◌∷◌, Bool, []}
use Rattle.vd_composites.specs.Composites.{Value}
use Rattle.vd_composites.specs.Stops.{◌>>=◌}
use Rattle.vd_composites.specs.declared.ranges.Bounds.{Bounds}
use Rattle.vd_composites.specs.declared.scalars.ScalarType.{ScalarType}
use Rattle.vd_environments.specs.Got.{Got, got}
use Rattle.vd_meaning.specs.Names.{Attribute, BoundAt, EventOf, LengthOf, NoAttribute, OfType, RangeOf, bare}
use Rattle.vd_operators.specs.Applied.{applied}
use Rattle.vd_operators.specs.Attributes.{array_range}
use Rattle.vd_operators.specs.declared.attributes.Side.{Side}
use Rattle.vd_operators.specs.declared.op.Op.TheVariants.{Unary}
use Rattle.vd_operators.specs.declared.op.UnaryOp.TheVariants as one
use Rattle.vd_static_parts.specs.declared.named.NameAttribute.{NameAttribute}
use Rattle.vd_static_parts.specs.declared.named.NameAttribute.TheVariants as attribute
use Rattle.vd_static_values.specs.Names.{type_attribute}
use Rattle.vd_values.specs.declared.scalar.Scalar.{Scalar}

abbrev pub read_attribute : NameAttribute → Attribute
read_attribute (attribute.BoundAt side) = BoundAt side
read_attribute attribute.Length = LengthOf
read_attribute (attribute.Range backwards) = RangeOf backwards
read_attribute attribute.Event = EventOf
read_attribute (attribute.OfType a) = OfType (type_attribute a)
read_attribute attribute.NoAttribute = NoAttribute

-- by the bounds of an array and the type of its index
abbrev pub bound_by : Side → Got Bounds → Got ScalarType → Got (Value Scalar)
bound_by side bounds of_type = bounds >>= λ b. of_type >>= λ t. got (applied (Unary (one.ArrayBound side t)) (bare b ∷ []))

abbrev pub length_by : Got Bounds → Got (Value Scalar)
length_by bounds = bounds >>= λ b. got (applied (Unary one.ArrayLength) (bare b ∷ []))

abbrev pub range_by : Bool → Got Bounds → Got ScalarType → Got Bounds
range_by backwards bounds of_type = bounds >>= λ b. of_type >>= λ t. got (array_range backwards t (bare b))
