-- How the operators that revision 2019 has alone are written in the text of 1993. (IEEE 1076-2019, operators; IEEE 1164.) Revision 1993 has all others of
-- the profile. What a function of the support package does is what its text says.
use Rattle.std.specs.Prelude.{ℕ, Bool, true, false, List, [], ◌∷◌, Option, Some, None, if◌then◌else◌}
use Rattle.vd_meaning.specs.Operators.{Symbol, LogicSymbol, ConditionSymbol, TextSymbol, ShiftSymbol, MatchSymbol, MatchOrderSymbol, symbol}
use Rattle.vd_meaning.specs.Tables.{Table, Sort, IntegerSort, LogicSort, LogicsSort, is_predefined, operand_types, sort_of}
use Rattle.vd_vectors.specs.declared.logics.LogicType.{LogicType}
use Rattle.vd_vectors.specs.declared.logics.LogicType.TheVariants.{TwoValued, NineValued}
use Rattle.vd_vectors.specs.declared.logical.LogicalOperator.{LogicalOperator}
use Rattle.vd_vectors.specs.declared.logical.LogicalOperator.TheVariants as logical
use Rattle.vd_vectors.specs.declared.orders.Relation.{Relation}
use Rattle.vd_vectors.specs.declared.orders.Relation.TheVariants as relation
use Rattle.vd_vectors.specs.declared.shifts.ShiftOperator.{ShiftOperator}
use Rattle.vd_vectors.specs.declared.shifts.ShiftOperator.TheVariants as shift
use Rattle.vd_match.specs.declared.support.Function.{Function}
use Rattle.vd_match.specs.declared.support.Function.TheVariants as function
use Rattle.vd_match.specs.declared.writings.Writing.{Writing}
use Rattle.vd_match.specs.declared.writings.Writing.TheVariants as writing

-- ---- logical operators

-- whether it is `not` of another one
abbrev pub is_negated : LogicalOperator → Bool
is_negated logical.Nand = true
is_negated logical.Nor = true
is_negated logical.Xnor = true
is_negated _ = false

abbrev pub called_by : LogicalOperator → Function → Writing
called_by o f = if is_negated o then writing.NegatedCall f else writing.Call f

-- of an array, all of its elements
abbrev pub reducing : LogicalOperator → LogicType → Function
reducing logical.And NineValued = function.AndAll
reducing logical.Nand NineValued = function.AndAll
reducing logical.Or NineValued = function.OrAll
reducing logical.Nor NineValued = function.OrAll
reducing logical.Xor NineValued = function.XorAll
reducing logical.Xnor NineValued = function.XorAll
reducing logical.And TwoValued = function.AndAllBits
reducing logical.Nand TwoValued = function.AndAllBits
reducing logical.Or TwoValued = function.OrAllBits
reducing logical.Nor TwoValued = function.OrAllBits
reducing logical.Xor TwoValued = function.XorAllBits
reducing logical.Xnor TwoValued = function.XorAllBits

-- of an array and a scalar, of which the array is the left one or not
abbrev pub mixed : LogicalOperator → LogicType → Bool → Function
mixed logical.And NineValued true = function.AndVectorScalar
mixed logical.Nand NineValued true = function.AndVectorScalar
mixed logical.Or NineValued true = function.OrVectorScalar
mixed logical.Nor NineValued true = function.OrVectorScalar
mixed logical.Xor NineValued true = function.XorVectorScalar
mixed logical.Xnor NineValued true = function.XorVectorScalar
mixed logical.And NineValued false = function.AndScalarVector
mixed logical.Nand NineValued false = function.AndScalarVector
mixed logical.Or NineValued false = function.OrScalarVector
mixed logical.Nor NineValued false = function.OrScalarVector
mixed logical.Xor NineValued false = function.XorScalarVector
mixed logical.Xnor NineValued false = function.XorScalarVector
mixed logical.And TwoValued true = function.AndBitVectorBit
mixed logical.Nand TwoValued true = function.AndBitVectorBit
mixed logical.Or TwoValued true = function.OrBitVectorBit
mixed logical.Nor TwoValued true = function.OrBitVectorBit
mixed logical.Xor TwoValued true = function.XorBitVectorBit
mixed logical.Xnor TwoValued true = function.XorBitVectorBit
mixed logical.And TwoValued false = function.AndBitBitVector
mixed logical.Nand TwoValued false = function.AndBitBitVector
mixed logical.Or TwoValued false = function.OrBitBitVector
mixed logical.Nor TwoValued false = function.OrBitBitVector
mixed logical.Xor TwoValued false = function.XorBitBitVector
mixed logical.Xnor TwoValued false = function.XorBitBitVector

-- of two scalars or two arrays of IEEE 1164, which has no `xnor` in 1993
abbrev pub alike_by : LogicalOperator → Writing
alike_by logical.Xnor = writing.NegatedXor
alike_by _ = writing.Kept

abbrev pub logical_by : LogicalOperator → Sort → Sort → Writing
logical_by o (LogicsSort of) (LogicSort other) = called_by o (mixed o of true)
logical_by o (LogicSort of) (LogicsSort other) = called_by o (mixed o of false)
logical_by o (LogicSort NineValued) _ = alike_by o
logical_by o (LogicsSort NineValued) _ = alike_by o
logical_by o _ _ = writing.Kept

-- ---- matching operators, shifts, texts

abbrev pub matching : LogicType → Bool → Function
matching NineValued false = function.Match
matching NineValued true = function.MatchVectors
matching TwoValued false = function.MatchBits
matching TwoValued true = function.MatchBitVectors

-- `?=`, or `?/=`
abbrev pub matched_by : Bool → Function → Writing
matched_by is_equal f = if is_equal then writing.Call f else writing.NegatedCall f

abbrev pub shifted : ShiftOperator → Writing
shifted shift.LogicalLeft = writing.Call function.ShiftLeft
shifted shift.LogicalRight = writing.Call function.ShiftRight
shifted shift.RotateLeft = writing.Call function.RotateLeft
shifted shift.RotateRight = writing.Call function.RotateRight
shifted _ = writing.Kept

abbrev pub ordered : Relation → Writing
ordered relation.IsLess = writing.Call function.BitLess
ordered relation.IsAtMost = writing.Call function.BitAtMost
ordered relation.IsGreater = writing.Call function.BitGreater
ordered relation.IsAtLeast = writing.Call function.BitAtLeast

abbrev pub text_by : Sort → Writing
text_by IntegerSort = writing.IntegerImage
text_by (LogicSort TwoValued) = writing.TruthImage
text_by (LogicSort NineValued) = writing.Call function.Text
text_by (LogicsSort NineValued) = writing.Call function.VectorText
text_by _ = writing.Kept

-- ---- by what an operator is named, and the types of its operands

abbrev pub by_one : Symbol → Sort → Writing
by_one ConditionSymbol (LogicSort NineValued) = writing.Call function.Condition
by_one ConditionSymbol (LogicSort TwoValued) = writing.IsOne
by_one (LogicSymbol o) (LogicsSort of) = called_by o (reducing o of)
by_one TextSymbol s = text_by s
by_one _ s = writing.Kept

abbrev pub by_two : Symbol → Sort → Sort → Writing
by_two (LogicSymbol o) l r = logical_by o l r
by_two (ShiftSymbol o) (LogicsSort NineValued) r = shifted o
by_two (MatchSymbol is_equal) (LogicSort of) r = matched_by is_equal (matching of false)
by_two (MatchSymbol is_equal) (LogicsSort of) r = matched_by is_equal (matching of true)
by_two (MatchOrderSymbol o) (LogicSort TwoValued) r = ordered o
by_two _ l r = writing.Kept

abbrev pub by_operands : Table → Symbol → List (Option ℕ) → Writing
by_operands t s (x ∷ []) = by_one s (sort_of t x)
by_operands t s (l ∷ r ∷ []) = by_two s (sort_of t l) (sort_of t r)
by_operands t s _ = writing.Kept

abbrev pub writing_of : Table → ℕ → Writing
writing_of t n = by_operands t (symbol (t.declared n).name) (operand_types t n)

-- a function of a user is called as it is
abbrev pub writing_by : Table → ℕ → Writing
writing_by t n = if is_predefined t n then writing_of t n else writing.Kept

abbrev pub writing_at : Table → Option ℕ → Writing
writing_at t None = writing.Kept
writing_at t (Some n) = writing_by t n
