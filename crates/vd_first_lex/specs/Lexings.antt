-- What the lexis answers for the lines of a file, and the lines of a file's bytes.
use Rattle.std.specs.Prelude.{◌≡◌, ◌<◌, ◌^◌, ℕ, ◌+◌, Bool, true, false, ◌&&◌, ◌==◌, List, [], ◌∷◌, length, if◌then◌else◌}
use Rattle.std.specs.List.{AllByRecursion}
use Rattle.vd_bytes.specs.declared.answers.Refusal.{Refusal}
use Rattle.vd_bytes.specs.declared.answers.Refusal.TheVariants.{Refused, Memory}
use Rattle.vd_bytes.specs.declared.places.Place.{Place}
use Rattle.vd_trees.specs.declared.revision.Revision.{Revision}
use Rattle.vd_trees.specs.Identifiers.{is_identifier}
use Rattle.vd_first_lex.specs.declared.selected.Line.{Line}
use Rattle.vd_first_lex.specs.declared.selected.Selected.{Selected}
use Rattle.vd_first_lex.specs.declared.tokens.Kind.{Kind}
use Rattle.vd_first_lex.specs.declared.tokens.Kind.TheVariants.{Name, End}
use Rattle.vd_first_lex.specs.declared.tokens.Token.{Token}
use Rattle.vd_first_lex.specs.Lexis.{IsTokenList, BreaksAt}

-- ---- lines: a line feed (10) ends one, and so does a carriage return (13) with a line feed behind it; the last may
-- lack its end

abbrev pub starts_with_line_feed : List ℕ → Bool
starts_with_line_feed [] = false
starts_with_line_feed (b ∷ bs) = b == 10

-- the byte in front of the first line
abbrev pub in_first_line : ℕ → List (List ℕ) → List (List ℕ)
in_first_line b [] = (b ∷ []) ∷ []
in_first_line b (l ∷ ls) = (b ∷ l) ∷ ls

abbrev pub lines_of : List ℕ → List (List ℕ)
lines_of [] = []
lines_of (b ∷ bs) =
    if b == 10 then [] ∷ lines_of bs
    else (if (b == 13) && starts_with_line_feed bs then lines_of bs else in_first_line b (lines_of bs))

abbrev pub numbered : ℕ → List (List ℕ) → List Line
numbered n [] = []
numbered n (l ∷ ls) = record { number = n; bytes = l } ∷ numbered (n + 1) ls

-- all lines of a file
abbrev pub plain_of : ℕ → List ℕ → Selected
plain_of file bytes = record { file = file; lines = numbered 1 (lines_of bytes); warnings = [] }

-- each column of a line, that of its end included, fits 32 bits
abbrev pub ColumnsFit : Selected → Type 0
ColumnsFit s = AllByRecursion (λ (l : Line). length l.bytes + 1 < 2 ^ 32) s.lines

-- ---- the answer

pub data Lexing : Type 0 where
  lexed : (ts : List Token) → Lexing
  broken : (p : Place) → Lexing

abbrev pub IsLexing : Revision → Selected → Lexing → Type 0
IsLexing r s (lexed ts) = IsTokenList r s ts
IsLexing r s (broken p) = BreaksAt r s p

-- no text has two lexings: two token lists are equal, two breaks are, and where one is the other isn't
abbrev pub HasOneLexing : Type 0
HasOneLexing = (r : Revision) (s : Selected) (a b : Lexing) → IsLexing r s a → IsLexing r s b → a ≡ b

-- and each text has one
abbrev pub HasSomeLexing : Type 0
HasSomeLexing = (r : Revision) (s : Selected) → (a : Lexing) × IsLexing r s a

-- what a refusal says: rule 101 at the first break; and memory may run out at any text
abbrev pub IsBreakOf : Revision → Selected → Refusal → Type 0
IsBreakOf r s (Refused e) = (e.rule ≡ 101) × BreaksAt r s e.place
IsBreakOf r s Memory = Unit {0}

-- ---- what each token list is

-- a name's text is an identifier, and every other token has no text
abbrev pub KeepsText : Revision → Kind → List ℕ → Type 0
KeepsText r Name text = is_identifier r text ≡ true
KeepsText r _ text = text ≡ []

abbrev pub IsPossible : Revision → Token → Type 0
IsPossible r t = KeepsText r t.kind t.text

-- the end of the file stands last, and nowhere else
abbrev pub EndsOnce : List Token → Type 0
EndsOnce [] = ⊥
EndsOnce (t ∷ []) = t.kind ≡ End
EndsOnce (t ∷ u ∷ ts) = (t.kind ≡ End → ⊥) × EndsOnce (u ∷ ts)
