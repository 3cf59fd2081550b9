-- The values of BIT, BOOLEAN and STD_ULOGIC, alone and in arrays. (IEEE 1076-2019, 9.2.2; IEEE 1164.) Those of BIT and of BOOLEAN stand here
-- as '0' and '1' of STD_ULOGIC: on these the operators of STD_ULOGIC are those of BIT and of BOOLEAN.
use Rattle.std.specs.Prelude.{ℕ, ℤ, pos, negsuc, nat_lt, Bool, List, [], ◌∷◌, length, map, Option, Some, None, Ok, Err, if◌then◌else◌}
use Rattle.std.specs.List.{slice_get}
use Rattle.vd_values.specs.declared.scalar.Scalar.{Scalar}
use Rattle.vd_values.specs.declared.scalar.Scalar.TheVariants.{Literal}
use Rattle.vd_values.specs.declared.scalar.StopKind.TheVariants.{Index}
use Rattle.vd_values.specs.declared.logic.Logic.{Logic}
use Rattle.vd_values.specs.declared.logic.Logic.TheVariants.{U, X, Zero, One, Z, W, L, H, Dash}
use Rattle.vd_values.specs.LogicTables.{column_of}
use Rattle.vd_composites.specs.declared.ranges.Bounds.{Bounds}
use Rattle.vd_composites.specs.Stops.{OrStop, ◌>>=◌}
use Rattle.vd_composites.specs.Ranges.{from_one}
use Rattle.vd_composites.specs.Composites.{Value, scalar_of}
use Rattle.vd_composites.specs.Composites.{One as OneValue}
use Rattle.vd_composites.specs.Parts.{misshapen, array_of}
use Rattle.vd_composites.specs.Vectors.{literal_position, literal_positions_of, literals}
use Rattle.vd_vectors.specs.declared.logics.LogicType.{LogicType}
use Rattle.vd_vectors.specs.declared.logics.LogicType.TheVariants.{TwoValued, NineValued}

-- the literals of a type in their order
abbrev pub literals_of : LogicType → List Logic
literals_of TwoValued = Zero ∷ One ∷ []
literals_of NineValued = U ∷ X ∷ Zero ∷ One ∷ Z ∷ W ∷ L ∷ H ∷ Dash ∷ []

abbrev pub or_misshapen : {A : Type 0} → Option A → OrStop A
or_misshapen None = misshapen
or_misshapen (Some x) = Ok x

-- the literal at a position, and the position of a literal
abbrev pub logic_at : LogicType → ℤ → OrStop Logic
logic_at t (pos n) = or_misshapen (slice_get (literals_of t) n)
logic_at t (negsuc n) = misshapen

abbrev pub position_in : LogicType → Logic → ℕ
position_in NineValued a = column_of a
position_in TwoValued One = 1
position_in TwoValued _ = 0

abbrev pub logics_at : LogicType → List ℤ → OrStop (List Logic)
logics_at t [] = Ok []
logics_at t (p ∷ ps) = logic_at t p >>= λ a. logics_at t ps >>= λ xs. Ok (a ∷ xs)

-- What a scalar value is, and the elements of an array from the left. These are literals: no other scalar is a value of these types.
abbrev pub logic_in : LogicType → Value Scalar → OrStop Logic
logic_in t v = or_misshapen (scalar_of v) >>= literal_position >>= logic_at t

abbrev pub logics_in : LogicType → Value Scalar → OrStop (List Logic)
logics_in t v = literal_positions_of v >>= logics_at t

-- the values of these
abbrev pub logic_value : LogicType → Logic → Value Scalar
logic_value t a = OneValue (Literal (position_in t a))

abbrev pub logic_array : LogicType → Bounds → List Logic → OrStop (Value Scalar)
logic_array t b xs = array_of b (literals (map (position_in t) xs))

-- The bounds 1 to n of an array whose index subtype is NATURAL or POSITIVE: those of one that isn't null belong to it.
abbrev pub bounds_from_one : ℕ → OrStop Bounds
bounds_from_one n = if nat_lt 2147483647 n then Err Index else Ok (from_one n)

-- The bounds of what an operator gives on an array. Those of arrays of BIT and BOOLEAN are those of the operand, of the left one where there are two. The
-- functions of std_logic_1164 give 1 to n.
abbrev pub result_bounds : LogicType → Bounds → ℕ → OrStop Bounds
result_bounds TwoValued b n = Ok b
result_bounds NineValued b n = bounds_from_one n

abbrev pub result_array : LogicType → Bounds → List Logic → OrStop (Value Scalar)
result_array t b xs = result_bounds t b (length xs) >>= λ c. logic_array t c xs

-- a value of BOOLEAN
abbrev pub truth : Bool → Value Scalar
truth b = OneValue (Literal (if b then 1 else 0))
