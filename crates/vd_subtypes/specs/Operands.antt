-- The operands of `&`, each a whole array or an element, and what they give. (IEEE 1076-2019, 9.2.5; IEEE 1076-1993, 7.2.4.)
use Rattle.std.specs.Prelude.{◌≡◌, Result, Ok, Err}
use Rattle.vd_values.specs.declared.scalar.Scalar.{Scalar}
use Rattle.vd_composites.specs.declared.scalars.ScalarSubtype.{ScalarSubtype}
use Rattle.vd_composites.specs.declared.ends.ValueEnd.{ValueEnd}
use Rattle.vd_composites.specs.Answers.{Ends}
use Rattle.vd_composites.specs.Stops.{OrStop, ◌>>=◌}
use Rattle.vd_composites.specs.Composites.{Value, Array, Items, none, item, joined}
use Rattle.vd_composites.specs.Parts.{misshapen}
use Rattle.vd_composites.specs.Concatenations.{Operand, Whole, Element, array_on}
use Rattle.vd_subtypes.specs.declared.heads.SubtypeHead.{SubtypeHead}
use Rattle.vd_subtypes.specs.declared.operands.OperandKind.{OperandKind}
use Rattle.vd_subtypes.specs.declared.operands.OperandKind.TheVariants.{WholeArray, OneElement}
use Rattle.vd_subtypes.specs.Heads.{fit_head}

abbrev pub operand_of : OperandKind → Value Scalar → Operand
operand_of WholeArray v = Whole v
operand_of OneElement v = Element v

-- The elements of an operand. One that is an element is made one of the element subtype.
abbrev pub elements_by : SubtypeHead → OperandKind → Value Scalar → OrStop (Items Scalar)
elements_by element WholeArray (Array b vs) = Ok vs
elements_by element WholeArray _ = misshapen
elements_by element OneElement v = fit_head element v >>= λ w. Ok (item w none)

-- the operator `&` of an array type with an index of this subtype and elements of a subtype with this head
abbrev pub concatenated : ScalarSubtype → SubtypeHead → OperandKind → OperandKind → Value Scalar → Value Scalar → OrStop (Value Scalar)
concatenated index element k m l r = elements_by element k l >>= λ vs. elements_by element m r >>= λ ws. array_on index (joined vs ws)

-- items that were added behind others
abbrev pub Adds : Result (Unit {0}) ValueEnd → Items Scalar → Items Scalar → OrStop (Items Scalar) → Type 0
Adds (Ok done) old new g = (g >>= λ vs. Ok (joined old vs)) ≡ Ok new
Adds (Err end) old new g = Ends end g
