-- What vd_str and vd_strv of the support package give, which stand for `to_string` of STD_ULOGIC and of vectors of it.
use Rattle.std.specs.Prelude.{◌≡◌, ℕ, List, [], ◌∷◌, length, map, slice_index_or, Ok}
use Rattle.vd_values.specs.declared.scalar.Scalar.{Scalar}
use Rattle.vd_values.specs.declared.logic.Logic.{Logic}
use Rattle.vd_values.specs.LogicTables.{column_of}
use Rattle.vd_composites.specs.declared.ranges.Bounds.{Bounds}
use Rattle.vd_composites.specs.Stops.{OrStop, ◌>>=◌}
use Rattle.vd_composites.specs.Ranges.{from_one}
use Rattle.vd_composites.specs.Composites.{Value, Array}
use Rattle.vd_composites.specs.Vectors.{literals}
use Rattle.vd_vectors.specs.Logics.{bounds_from_one}
use Rattle.vd_vectors.specs.Support.{value, values}
use Rattle.vd_operators.specs.declared.texts.TextOperator.TheVariants.{LogicText, LogicsText}
use Rattle.vd_operators.specs.Texts.{written}

-- the codes of the characters U X 0 1 Z W L H -, in the order of the type
abbrev pub characters : List ℕ
characters = 85 ∷ 88 ∷ 48 ∷ 49 ∷ 90 ∷ 87 ∷ 76 ∷ 72 ∷ 45 ∷ []

abbrev pub character : Logic → ℕ
character a = slice_index_or characters (column_of a) 0

-- a STRING with the bounds 1 to n, where these belong to the index subtype
abbrev pub string : List ℕ → OrStop (Value Scalar)
string codes = bounds_from_one (length codes) >>= λ b. Ok (Array b (literals codes))

-- the character of a value, and those of the elements from the left
abbrev pub vd_str : Logic → Value Scalar
vd_str a = Array (from_one 1) (literals (character a ∷ []))

abbrev pub vd_strv : List Logic → OrStop (Value Scalar)
vd_strv xs = string (map character xs)

pub record SupportWritesTexts : Type 0 where
  pub of_value : (a : Logic) → written LogicText (value a) ≡ Ok (vd_str a)
  pub of_vector : (b : Bounds) (xs : List Logic) → written LogicsText (values b xs) ≡ vd_strv xs
