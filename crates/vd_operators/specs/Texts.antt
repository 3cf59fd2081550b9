-- What 'image and `to_string` write. (IEEE 1076-2019, 5.7 and 16.2; IEEE 1076-1993, 14.1.) A text is a value of STRING with the bounds 1 to n, where these belong to
-- the index subtype; the position of a character in its type is its code.
use Rattle.std.specs.Prelude.{ℕ, ◌+◌, nat_le, ◌&&◌, List, [], ◌∷◌, length, map, slice_get, Ok, if◌then◌else◌}
use Rattle.std.specs.Fmt.{signed_decimal}
use Rattle.vd_values.specs.declared.scalar.Scalar.{Scalar}
use Rattle.vd_values.specs.declared.scalar.Scalar.TheVariants.{Integer as OfInteger, Time as OfTime, Literal as OfLiteral}
use Rattle.vd_values.specs.declared.logic.Logic.{Logic}
use Rattle.vd_values.specs.declared.logic.Logic.TheVariants.{U, X, Zero, One, Z, W, L, H, Dash}
use Rattle.vd_composites.specs.Stops.{OrStop, ◌>>=◌}
use Rattle.vd_composites.specs.Composites.{Value, scalar_of}
use Rattle.vd_composites.specs.Parts.{misshapen, array_of}
use Rattle.vd_composites.specs.Vectors.{literals}
use Rattle.vd_vectors.specs.declared.logics.LogicType.TheVariants.{NineValued}
use Rattle.vd_vectors.specs.Logics.{bounds_from_one, or_misshapen, logic_in, logics_in}
use Rattle.vd_operators.specs.Arithmetic.{integer_in}
use Rattle.vd_operators.specs.declared.texts.LiteralName.{LiteralName}
use Rattle.vd_operators.specs.declared.texts.LiteralName.TheVariants.{Character, Word}
use Rattle.vd_operators.specs.declared.texts.TextOperator.{TextOperator}
use Rattle.vd_operators.specs.declared.texts.TextOperator.TheVariants.{IntegerText, LiteralText, LogicText, LogicsText}

-- a text by its codes
abbrev pub text : List ℕ → OrStop (Value Scalar)
text cs = bounds_from_one (length cs) >>= λ b. array_of b (literals cs)

-- a letter of ASCII as a small one, every other byte as it is
abbrev pub small : ℕ → ℕ
small c = if nat_le 65 c && nat_le c 90 then c + 32 else c

-- a literal of an enumeration type as it is written: a character between apostrophes (39), a word in small letters
abbrev pub image_of : LiteralName → List ℕ
image_of (Character c) = 39 ∷ c ∷ 39 ∷ []
image_of (Word w) = map small w.items

-- the characters of STD_ULOGIC
abbrev pub character_of : Logic → ℕ
character_of U = 85
character_of X = 88
character_of Zero = 48
character_of One = 49
character_of Z = 90
character_of W = 87
character_of L = 76
character_of H = 72
character_of Dash = 45

abbrev pub literal_position : Scalar → OrStop ℕ
literal_position (OfLiteral n) = Ok n
literal_position (OfInteger x) = misshapen
literal_position (OfTime t) = misshapen

-- 'image and `to_string` of INTEGER are its decimal digits. 'image of an enumeration type and `to_string` of BOOLEAN are the literal. `to_string`
-- of STD_ULOGIC is the character, of a vector of it the characters.
abbrev pub written : TextOperator → Value Scalar → OrStop (Value Scalar)
written IntegerText v = integer_in v >>= λ x. text (signed_decimal x)
written (LiteralText names) v = or_misshapen (scalar_of v) >>= literal_position >>= λ n. or_misshapen (slice_get names.items n) >>= λ name. text (image_of name)
written LogicText v = logic_in NineValued v >>= λ a. text (character_of a ∷ [])
written LogicsText v = logics_in NineValued v >>= λ xs. text (map character_of xs)
