-- Arrays from their elements in order, by the head of the element subtype, and the bounds of an aggregate with `others`. (IEEE 1076-2019, 9.3.3.3; IEEE 1076-1993, 7.3.2.2.)
use Rattle.std.specs.Prelude.{Ok}
use Rattle.vd_values.specs.declared.scalar.Scalar.{Scalar}
use Rattle.vd_composites.specs.declared.scalars.ScalarSubtype.{ScalarSubtype}
use Rattle.vd_composites.specs.Stops.{OrStop, ◌>>=◌}
use Rattle.vd_composites.specs.Composites.{Value, Items, none, item}
use Rattle.vd_composites.specs.Concatenations.{array_on}
use Rattle.vd_subtypes.specs.declared.heads.SubtypeHead.{SubtypeHead}
use Rattle.vd_subtypes.specs.Heads.{fit_head}

-- items made values of a subtype with this head, from the left
abbrev pub fit_each_head : SubtypeHead → Items Scalar → OrStop (Items Scalar)
fit_each_head head none = Ok none
fit_each_head head (item v vs) = fit_head head v >>= λ w. fit_each_head head vs >>= λ ws. Ok (item w ws)

-- The array of some elements, each made one of the element subtype.
abbrev pub positional_by : ScalarSubtype → SubtypeHead → Items Scalar → OrStop (Value Scalar)
positional_by index element vs = fit_each_head element vs >>= array_on index
