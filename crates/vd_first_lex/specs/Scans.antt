-- Words for the lexer's own functions: what is read of a text, whatever stands behind it.
use Rattle.std.specs.Prelude.{◌≡◌, ◌≢◌, ℕ, ◌+◌, ◌<◌, ◌≤◌, Bool, true, false, ◌&&◌, ◌||◌, ◌==◌, List, [], ◌∷◌, ◌++◌, length, take, drop, Some, None}
use Rattle.vd_bytes.specs.declared.answers.Refusal.{Refusal}
use Rattle.vd_bytes.specs.declared.answers.Refusal.TheVariants.{Refused, Memory}
use Rattle.vd_bytes.specs.declared.places.Place.{Place}
use Rattle.vd_trees.specs.declared.revision.Revision.{Revision}
use Rattle.vd_trees.specs.Identifiers.{is_name, lowered, place_among, is_letter_or_digit, starts_with_letter_or_digit}
use Rattle.vd_trees.specs.Words.{reserved_words}
use Rattle.vd_first_lex.specs.declared.tokens.Kind.{Kind}
use Rattle.vd_first_lex.specs.declared.tokens.Token.{Token}
use Rattle.vd_first_lex.specs.Lexis.{Spot, line_spots, bytes_of, is_spacing, kind_of, word_or_name, text_if_name, Piece, all_spots, ArePieces, all_tokens, BeginsNoToken}

-- ---- bytes

-- the first byte goes on with a name whose letter stands before it
abbrev pub goes_on : List ℕ → Bool
goes_on [] = false
goes_on (b ∷ bs) = is_letter_or_digit b || (b == 95 && starts_with_letter_or_digit bs)

-- no text that begins with a line's bytes, more of them than n, is a name
abbrev pub NoLongerName : List ℕ → ℕ → Type 0
NoLongerName bytes n = (behind more rest : List ℕ) → drop n bytes ++ 10 ∷ behind ≡ more ++ rest → more ≢ [] → is_name (take n bytes ++ more) ≡ false

-- the first n bytes of a line are a name, and no more of them are
pub record IsLongestName (bytes : List ℕ) (n : ℕ) : Type 0 where
  pub some : 0 < n
  pub within : n ≤ length bytes
  pub is_name : is_name (take n bytes) ≡ true
  pub longest : NoLongerName bytes n

-- the first n bytes of a line are a token of this kind, and no more of them are one
pub record BeginsToken (r : Revision) (bytes : List ℕ) (n : ℕ) (k : Kind) : Type 0 where
  pub some : 0 < n
  pub within : n ≤ length bytes
  pub kind : kind_of r (take n bytes) ≡ Some k
  pub longest : (behind more rest : List ℕ) → drop n bytes ++ 10 ∷ behind ≡ more ++ rest → more ≢ [] → kind_of r (take n bytes ++ more) ≡ None

-- no front of the line is a token
abbrev pub BeginsNone : Revision → List ℕ → Type 0
BeginsNone r bytes = (behind : List ℕ) → BeginsNoToken r (bytes ++ 10 ∷ behind)

-- ---- spots

-- the rest of a line, from a place on, and its line end
abbrev pub spots_from : Place → List ℕ → List Spot
spots_from p bytes = line_spots p.file p.line p.column bytes

-- the token of a text that stands there
abbrev pub token_at : Place → Kind → List ℕ → Token
token_at p k text = record { kind = k; text = text_if_name k text; place = p }

-- the kind of a name's text: a reserved word or a name
abbrev pub kind_of_name : Revision → List ℕ → Kind
kind_of_name r text = word_or_name (place_among (reserved_words r) (lowered text))

-- n columns behind a place
abbrev pub moved : Place → ℕ → Place
moved p n = record p { column = p.column + n }

-- pieces are cut off the front of a text, and their tokens come to those before
pub record ReadsTokens (r : Revision) (old new : List Token) (text rest : List Spot) : Type 0 where
  pub pieces : List Piece
  pub cut : all_spots pieces ++ rest ≡ text
  pub are_pieces : (behind : List Spot) → ArePieces r pieces (rest ++ behind)
  pub tokens : new ≡ old ++ all_tokens r pieces

-- the text is cut into pieces up to a byte at which none begins
pub record BreaksWithin (r : Revision) (text : List Spot) (p : Place) : Type 0 where
  pub pieces : List Piece
  pub spot : Spot
  pub after : List Spot
  pub cut : all_spots pieces ++ spot ∷ after ≡ text
  pub are_pieces : (behind : List Spot) → ArePieces r pieces (spot ∷ after ++ behind)
  pub no_spacing : is_spacing spot.byte ≡ false
  pub no_token : (behind : List Spot) → BeginsNoToken r (bytes_of (spot ∷ after ++ behind))
  pub place : p ≡ spot.place

-- a refusal names rule 101 and the break of this text, or memory ran out
abbrev pub IsBreakWithin : Revision → List Spot → Refusal → Type 0
IsBreakWithin r text (Refused e) = (e.rule ≡ 101) × BreaksWithin r text e.place
IsBreakWithin r text Memory = Unit {0}
