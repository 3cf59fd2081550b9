-- The pieces of a directive. (IEEE 1076-2019, lexical elements.)
use Rattle.std.specs.Prelude.{◌≡◌, ℕ, zero, suc, ◌+◌, Bool, false, ◌&&◌, ◌||◌, ◌==◌, nat_le, List, [], ◌∷◌, length, take, drop, Option, Some, None, option_map, if◌then◌else◌}
use Rattle.vd_trees.specs.Identifiers.{is_letter_or_digit, lowered}
use Rattle.vd_directives.specs.declared.pieces.Relator.TheVariants.{Same, Differs, Below, AtMost, Above, AtLeast}
use Rattle.vd_directives.specs.declared.pieces.Piece.{Piece}
use Rattle.vd_directives.specs.declared.pieces.Piece.TheVariants.{Word, Quoted, Compare, Opening, Closing}
use Rattle.vd_directives.specs.declared.pieces.First.{First}
use Rattle.vd_directives.specs.declared.pieces.First.TheVariants.{Nothing, Nonsense, Next}

-- space, tab, line feed, vertical tab, form feed and carriage return
abbrev pub is_spacing : ℕ → Bool
is_spacing b = b == 32 || (nat_le 9 b && nat_le b 13)

-- what may stand in a text
abbrev pub is_graphic : ℕ → Bool
is_graphic b = nat_le 32 b && nat_le b 126

-- letters, digits and the underscore (95)
abbrev pub is_word_byte : ℕ → Bool
is_word_byte b = is_letter_or_digit b || b == 95

-- how many bytes of a kind stand in front
abbrev pub run_length : (ℕ → Bool) → List ℕ → ℕ
run_length is_one [] = 0
run_length is_one (b ∷ bs) = if is_one b then run_length is_one bs + 1 else 0

abbrev pub word_length : List ℕ → ℕ
word_length = run_length is_word_byte

abbrev pub spacing_length : List ℕ → ℕ
spacing_length = run_length is_spacing

abbrev pub starts_with : ℕ → List ℕ → Bool
starts_with c [] = false
starts_with c (b ∷ bs) = b == c

-- ---- the first piece of a text without spacing in front, and what comes after it

pub data Begins : Type 0 where
  -- nothing is left, or a comment
  ends : Begins
  -- a byte that can't stand there, or a text without end
  breaks : Begins
  piece : Piece → List ℕ → Begins

-- what the code gives stands for that
abbrev pub IsFirst : First → Begins → Type 0
IsFirst Nothing begins = begins ≡ ends
IsFirst Nonsense begins = begins ≡ breaks
IsFirst (Next p after) begins = begins ≡ piece p after.now

-- a byte in front of what a quoted text says
abbrev pub said_first : ℕ → Option (List ℕ × List ℕ) → Option (List ℕ × List ℕ)
said_first b None = None
said_first b (Some p) = Some (b ∷ p.0, p.1)

-- behind a quotation mark (34): what the text says, each doubled mark single, and what comes after its last mark
abbrev pub quoted : List ℕ → Option (List ℕ × List ℕ)
quoted [] = None
quoted (b ∷ []) = if b == 34 then Some ([], []) else None
quoted (b ∷ c ∷ bs) =
    if b == 34 then (if c == 34 then said_first 34 (quoted bs) else Some ([], c ∷ bs))
    else (if is_graphic b then said_first b (quoted (c ∷ bs)) else None)

abbrev pub first_quoted : Option (List ℕ × List ℕ) → Begins
first_quoted None = breaks
first_quoted (Some p) = piece (Quoted p.0) p.1

-- `=` (61), `/=` (47), `<` and `<=` (60), `>` and `>=` (62)
abbrev pub first_relator : List ℕ → Begins
first_relator [] = ends
first_relator (b ∷ bs) =
    if b == 61 then piece (Compare Same) bs
    else (if b == 47 && starts_with 61 bs then piece (Compare Differs) (drop 1 bs)
    else (if b == 60 then (if starts_with 61 bs then piece (Compare AtMost) (drop 1 bs) else piece (Compare Below) bs)
    else (if b == 62 then (if starts_with 61 bs then piece (Compare AtLeast) (drop 1 bs) else piece (Compare Above) bs)
    else breaks)))

-- brackets (40, 41), comments (45), quoted texts (34), words and relators
abbrev pub first_of : List ℕ → Begins
first_of [] = ends
first_of (b ∷ bs) =
    if b == 40 then piece Opening bs
    else (if b == 41 then piece Closing bs
    else (if b == 45 then (if starts_with 45 bs then ends else breaks)
    else (if b == 34 then first_quoted (quoted bs)
    else (if is_word_byte b then piece (Word (lowered (take (word_length (b ∷ bs)) (b ∷ bs)))) (drop (word_length (b ∷ bs)) (b ∷ bs))
    else first_relator (b ∷ bs)))))

-- ---- all pieces

abbrev pub piece_first : Begins → (List ℕ → Option (List Piece)) → Option (List Piece)
piece_first ends rest_of = Some []
piece_first breaks rest_of = None
piece_first (piece p after) rest_of = option_map (λ ps. p ∷ ps) (rest_of after)

-- the pieces of a text, up to so many
abbrev pub pieces_within : ℕ → List ℕ → Option (List Piece)
pieces_within zero text = Some []
pieces_within (suc n) text = piece_first (first_of (drop (spacing_length text) text)) (pieces_within n)

-- A piece takes a byte at least, so a text has no more pieces than bytes.
abbrev pub pieces_of : List ℕ → Option (List Piece)
pieces_of text = pieces_within (length text) text
