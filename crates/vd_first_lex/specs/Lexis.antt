-- The lexical elements of the first language: names, reserved words, and the marks ( ) , . : ; <=. Between them
-- stands spacing. Every other byte is refused. (IEEE 1076, lexical elements: separators, identifiers, delimiters.)
use Rattle.std.specs.Prelude.{◌≡◌, ◌≢◌, ℕ, ◌+◌, Bool, true, false, ◌&&◌, ◌||◌, ◌==◌, nat_le, List, [], ◌∷◌, ◌++◌, map, length, codes, Option, Some, None, IsSome, if◌then◌else◌}
use Rattle.vd_bytes.specs.declared.places.Place.{Place}
use Rattle.vd_trees.specs.declared.revision.Revision.{Revision}
use Rattle.vd_first_lex.specs.declared.selected.Line.{Line}
use Rattle.vd_first_lex.specs.declared.selected.Selected.{Selected}
use Rattle.vd_first_lex.specs.declared.tokens.Kind.{Kind}
use Rattle.vd_first_lex.specs.declared.tokens.Kind.TheVariants.{Name, Word, Mark, End}
use Rattle.vd_first_lex.specs.declared.tokens.Token.{Token}
use Rattle.vd_trees.specs.Words.{reserved_words}
use Rattle.vd_trees.specs.Identifiers.{is_name, lowered, place_among}

-- ---- the text: each line's bytes and a line end behind them, each byte with its place

pub record Spot : Type 0 where
  pub byte : ℕ
  pub place : Place

abbrev pub place_at : ℕ → ℕ → ℕ → Place
place_at file line column = record { file = file; line = line; column = column }

-- a line from a column on, and its line end (10)
abbrev pub line_spots : ℕ → ℕ → ℕ → List ℕ → List Spot
line_spots file number column [] = record { byte = 10; place = place_at file number column } ∷ []
line_spots file number column (b ∷ bs) = record { byte = b; place = place_at file number column } ∷ line_spots file number (column + 1) bs

abbrev pub spots_of : ℕ → List Line → List Spot
spots_of file [] = []
spots_of file (l ∷ ls) = line_spots file l.number 1 l.bytes ++ spots_of file ls

abbrev pub bytes_of : List Spot → List ℕ
bytes_of ss = map (λ s. s.byte) ss

-- ---- which texts are spacing and marks

-- space, the tab, the line feed, the vertical tab, the form feed and the carriage return
abbrev pub is_spacing : ℕ → Bool
is_spacing b = b == 32 || (nat_le 9 b && nat_le b 13)

-- the marks, each in its place
abbrev pub marks : List (List ℕ)
marks =
    codes "&" ∷ codes "'" ∷ codes "(" ∷ codes ")" ∷ codes "*" ∷ codes "+" ∷ codes "," ∷ codes "-" ∷ codes "." ∷ codes "/" ∷ codes ":" ∷ codes ";"
    ∷ codes "<" ∷ codes "=" ∷ codes ">" ∷ codes "|" ∷ codes "=>" ∷ codes "**" ∷ codes ":=" ∷ codes "/=" ∷ codes ">=" ∷ codes "<=" ∷ codes "<>"
    ∷ codes "?" ∷ codes "??" ∷ codes "?=" ∷ codes "?/=" ∷ codes "?<" ∷ codes "?<=" ∷ codes "?>" ∷ codes "?>=" ∷ []

-- those that the first language has
abbrev pub marks_taken : List (List ℕ)
marks_taken = codes "(" ∷ codes ")" ∷ codes "," ∷ codes "." ∷ codes ":" ∷ codes ";" ∷ codes "<=" ∷ []

abbrev pub word_or_name : Option ℕ → Kind
word_or_name None = Name
word_or_name (Some n) = Word n

abbrev pub mark_kind : Option ℕ → Option Kind
mark_kind None = None
mark_kind (Some n) = Some (Mark n)

-- the kind of the token that a text is, if it is one
abbrev pub kind_of : Revision → List ℕ → Option Kind
kind_of r text =
    if is_name text then Some (word_or_name (place_among (reserved_words r) (lowered text)))
    else (elim (place_among marks_taken text) [ None ↦ None | Some n ↦ mark_kind (place_among marks text) ])

-- ---- the token list

-- the first text, before the second one, is a token, and no longer text from there is one
pub record IsLongestToken (r : Revision) (text after : List ℕ) : Type 0 where
  pub is_token : IsSome (kind_of r text)
  pub longest : (more rest : List ℕ) → after ≡ more ++ rest → more ≢ [] → kind_of r (text ++ more) ≡ None

-- what a text is cut into: one byte of spacing, or a token
pub data Piece : Type 0 where
  spacing : Spot → Piece
  token : Spot → List Spot → Piece

abbrev pub piece_spots : Piece → List Spot
piece_spots (spacing s) = s ∷ []
piece_spots (token s ss) = s ∷ ss

abbrev pub IsPiece : Revision → Piece → List Spot → Type 0
IsPiece r (spacing s) after = is_spacing s.byte ≡ true
IsPiece r (token s ss) after = IsLongestToken r (bytes_of (s ∷ ss)) (bytes_of after)

abbrev pub all_spots : List Piece → List Spot
all_spots [] = []
all_spots (p ∷ ps) = piece_spots p ++ all_spots ps

-- each piece is one, before the pieces behind it and what follows them
abbrev pub ArePieces : Revision → List Piece → List Spot → Type 0
ArePieces r [] after = Unit {0}
ArePieces r (p ∷ ps) after = IsPiece r p (all_spots ps ++ after) × ArePieces r ps after

abbrev pub text_if_name : Kind → List ℕ → List ℕ
text_if_name Name text = lowered text
text_if_name _ text = []

abbrev pub token_with : Option Kind → Spot → List ℕ → List Token
token_with None s text = []
token_with (Some k) s text = record { kind = k; text = text_if_name k text; place = s.place } ∷ []

abbrev pub piece_tokens : Revision → Piece → List Token
piece_tokens r (spacing s) = []
piece_tokens r (token s ss) = token_with (kind_of r (bytes_of (s ∷ ss))) s (bytes_of (s ∷ ss))

abbrev pub all_tokens : Revision → List Piece → List Token
all_tokens r [] = []
all_tokens r (p ∷ ps) = piece_tokens r p ++ all_tokens r ps

-- behind the last byte of the last line, its line end not counted; where there is no line, the first place of the file
abbrev pub end_place : ℕ → List Line → Place
end_place file [] = place_at file 1 1
end_place file (l ∷ []) = place_at file l.number (length l.bytes + 1)
end_place file (l ∷ m ∷ ls) = end_place file (m ∷ ls)

abbrev pub end_token : ℕ → List Line → Token
end_token file ls = record { kind = End; text = []; place = end_place file ls }

-- the whole text is cut into pieces, and these are its tokens, with the end behind them
pub record IsTokenList (r : Revision) (s : Selected) (ts : List Token) : Type 0 where
  pub pieces : List Piece
  pub cut : all_spots pieces ≡ spots_of s.file s.lines
  pub are_pieces : ArePieces r pieces []
  pub tokens : ts ≡ all_tokens r pieces ++ end_token s.file s.lines ∷ []

-- no front of the text is a token
abbrev pub BeginsNoToken : Revision → List ℕ → Type 0
BeginsNoToken r text = (front rest : List ℕ) → text ≡ front ++ rest → kind_of r front ≡ None

-- the text is cut into pieces up to a byte at which none begins
pub record BreaksAt (r : Revision) (s : Selected) (p : Place) : Type 0 where
  pub pieces : List Piece
  pub spot : Spot
  pub after : List Spot
  pub cut : all_spots pieces ++ spot ∷ after ≡ spots_of s.file s.lines
  pub are_pieces : ArePieces r pieces (spot ∷ after)
  pub no_spacing : is_spacing spot.byte ≡ false
  pub no_token : BeginsNoToken r (bytes_of (spot ∷ after))
  pub place : p ≡ spot.place
