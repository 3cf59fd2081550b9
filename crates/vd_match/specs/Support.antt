-- The functions of the support package, in the order in which they are declared there, and the numbers of their declarations.
use Rattle.std.specs.Prelude.{ℕ, List, slice_index_or}
use Rattle.vd_match.specs.declared.support.Function.{Function}
use Rattle.vd_match.specs.declared.support.Function.TheVariants as function

abbrev pub function_number : Function → ℕ
function_number function.Condition = 0
function_number function.Match = 1
function_number function.MatchVectors = 2
function_number function.MatchBits = 3
function_number function.MatchBitVectors = 4
function_number function.BitLess = 5
function_number function.BitAtMost = 6
function_number function.BitGreater = 7
function_number function.BitAtLeast = 8
function_number function.AndAll = 9
function_number function.OrAll = 10
function_number function.XorAll = 11
function_number function.AndAllBits = 12
function_number function.OrAllBits = 13
function_number function.XorAllBits = 14
function_number function.AndVectorScalar = 15
function_number function.OrVectorScalar = 16
function_number function.XorVectorScalar = 17
function_number function.AndScalarVector = 18
function_number function.OrScalarVector = 19
function_number function.XorScalarVector = 20
function_number function.AndBitVectorBit = 21
function_number function.OrBitVectorBit = 22
function_number function.XorBitVectorBit = 23
function_number function.AndBitBitVector = 24
function_number function.OrBitBitVector = 25
function_number function.XorBitBitVector = 26
function_number function.ShiftLeft = 27
function_number function.ShiftRight = 28
function_number function.RotateLeft = 29
function_number function.RotateRight = 30
function_number function.Text = 31
function_number function.VectorText = 32
function_number function.Dash = 33

-- where there is none it is 0, which is no function's
abbrev pub number_of : List ℕ → Function → ℕ
number_of numbers f = slice_index_or numbers (function_number f) 0
