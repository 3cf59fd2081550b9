-- The bytes of a token, and which texts a token of each kind can have.
use Rattle.std.specs.Prelude.{◌≡◌, ◌<◌, ◌≤◌, ℕ, Bool, true, ◌&&◌, ◌||◌, ◌==◌, not, nat_le, List, [], ◌∷◌, ◌++◌, length, slice_index_or, decimal, if◌then◌else◌}
use Rattle.std.specs.List.{list_all}
use Rattle.vd_trees.specs.declared.revision.Revision.{Revision}
use Rattle.vd_trees.specs.declared.revision.Revision.TheVariants.{V2019, V1993}
use Rattle.vd_trees.specs.Words.{reserved_words}
use Rattle.vd_trees.specs.Identifiers.{is_identifier}
use Rattle.vd_tokens.specs.declared.kinds.Kind.{Kind}
use Rattle.vd_tokens.specs.declared.kinds.Kind.TheVariants.{Name, Number, Letter, Quoted, Bits, Word, Mark, End}
use Rattle.vd_tokens.specs.Marks.{marks}
use Rattle.vd_tokens.specs.Lexemes.{Lexeme}

-- ---- bytes

-- each quotation mark (34) twice
abbrev pub doubled : List ℕ → List ℕ
doubled [] = []
doubled (b ∷ bs) = if b == 34 then b ∷ b ∷ doubled bs else b ∷ doubled bs

-- a text between quotation marks
abbrev pub in_marks : List ℕ → List ℕ
in_marks text = 34 ∷ doubled text ++ 34 ∷ []

-- a letter stands between apostrophes (39), and bits in base two, behind a 'B' (66)
abbrev pub spelling_of : Kind → List ℕ → List ℕ
spelling_of Name text = text
spelling_of Number text = text
spelling_of Letter text = 39 ∷ text ++ 39 ∷ []
spelling_of Quoted text = in_marks text
spelling_of Bits text = 66 ∷ in_marks text
spelling_of (Word n) text = slice_index_or (reserved_words V2019) n []
spelling_of (Mark n) text = slice_index_or (marks V2019) n []
spelling_of End text = []

-- ---- what a token can be, its place aside

-- space and the visible characters of ASCII
abbrev pub is_graphic : ℕ → Bool
is_graphic b = nat_le 32 b && nat_le b 126

abbrev pub is_digit : ℕ → Bool
is_digit b = nat_le 48 b && nat_le b 57

-- the greatest value of INTEGER
abbrev pub greatest_integer : ℕ
greatest_integer = 2147483647

-- the decimal text of a number that isn't above it
pub record IsNumberText (text : List ℕ) : Type 0 where
  pub number : ℕ
  pub fits : number ≤ greatest_integer
  pub is_decimal : text ≡ decimal number

-- an element of bits: in revision 1993 a '0' or a '1', in 2019 any character but the underscore (95)
abbrev pub is_bit : Revision → ℕ → Bool
is_bit V1993 b = b == 48 || b == 49
is_bit V2019 b = is_graphic b && not (b == 95)

abbrev pub IsTextOf : Revision → Kind → List ℕ → Type 0
IsTextOf r Name text = is_identifier r text ≡ true
IsTextOf r Number text = IsNumberText text
IsTextOf r Letter text = (length text ≡ 1) × (list_all is_graphic text ≡ true)
IsTextOf r Quoted text = list_all is_graphic text ≡ true
IsTextOf r Bits text = list_all (is_bit r) text ≡ true
IsTextOf r (Word n) text = (n < length (reserved_words r)) × (text ≡ [])
IsTextOf r (Mark n) text = (n < length (marks r)) × (text ≡ [])
IsTextOf r End text = text ≡ []

-- a text of the revision can have this token
abbrev pub IsPossible : Revision → Lexeme → Type 0
IsPossible r t = IsTextOf r t.kind t.text

-- the end of the file stands last, and nowhere else
abbrev pub EndsOnce : List Lexeme → Type 0
EndsOnce [] = ⊥
EndsOnce (t ∷ []) = t.kind ≡ End
EndsOnce (t ∷ u ∷ ts) = (t.kind ≡ End → ⊥) × EndsOnce (u ∷ ts)
