-- Concatenation, and arrays that are made of elements alone. (IEEE 1076-2019, 9.2.5, 9.3.2 and 9.3.3.3; IEEE 1076-1993, 7.2.4, 7.3.1 and 7.3.2.2.)
use Rattle.std.specs.Prelude.{Ok}
use Rattle.vd_values.specs.declared.scalar.Scalar.{Scalar}
use Rattle.vd_composites.specs.declared.scalars.ScalarSubtype.{ScalarSubtype}
use Rattle.vd_composites.specs.Stops.{OrStop, ◌>>=◌}
use Rattle.vd_composites.specs.Ranges.{from_left}
use Rattle.vd_composites.specs.Composites.{Value, Array, Items, none, item, count, joined}
use Rattle.vd_composites.specs.Parts.{misshapen}
use Rattle.vd_composites.specs.Subtypes.{Subtype, Arrays, indexed, fit}

-- The array of some elements, null where there are none. It begins at the left bound of the index subtype and goes in its direction.
abbrev pub array_on : {L : Type 0} → ScalarSubtype → Items L → OrStop (Value L)
array_on index vs = indexed index (from_left index.range.left index.range.down (count vs)) vs

-- an operand of `&`: an array of the type, or an element
pub data Operand : Type 0 where
  Whole : (value : Value Scalar) → Operand
  Element : (value : Value Scalar) → Operand

-- The elements of an operand. One that is an element is made one of the element subtype; those of an array aren't looked at.
abbrev pub elements_of : Subtype → Operand → OrStop (Items Scalar)
elements_of element (Whole (Array b vs)) = Ok vs
elements_of element (Whole _) = misshapen
elements_of element (Element v) = fit element v >>= λ w. Ok (item w none)

-- the operator `&` of an array type
abbrev pub concatenation : Subtype → Operand → Operand → OrStop (Value Scalar)
concatenation (Arrays index bounds element) l r = elements_of element l >>= λ vs. elements_of element r >>= λ ws. array_on index (joined vs ws)
concatenation _ l r = misshapen

-- items that are made one of a subtype, from the left
abbrev pub fit_each : Subtype → Items Scalar → OrStop (Items Scalar)
fit_each s none = Ok none
fit_each s (item v vs) = fit s v >>= λ w. fit_each s vs >>= λ ws. Ok (item w ws)

-- An array of a type from its elements in order, as a literal in quotation marks and a positional aggregate without `others` give it. Each
-- is made one of the element subtype.
abbrev pub positional : Subtype → Items Scalar → OrStop (Value Scalar)
positional (Arrays index bounds element) vs = fit_each element vs >>= array_on index
positional _ vs = misshapen
