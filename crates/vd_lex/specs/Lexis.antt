-- The token list of a text: the lines that are read, each with its end, are cut into tokens, spacing and comments. Each token is the
-- longest of its form.
use Rattle.std.specs.Prelude.{◌≡◌, ℕ, ◌+◌, List, [], ◌∷◌, ◌++◌, drop, Option, Some, None}
use Rattle.vd_bytes.specs.declared.answers.Refusal.{Refusal}
use Rattle.vd_bytes.specs.declared.answers.Refusal.TheVariants.{Refused, Memory}
use Rattle.vd_bytes.specs.declared.places.Place.{Place}
use Rattle.vd_trees.specs.declared.revision.Revision.{Revision}
use Rattle.vd_directives.specs.declared.selected.Line.{Line}
use Rattle.vd_directives.specs.declared.selected.Selected.{Selected}
use Rattle.vd_directives.specs.Lines.{place_at, end_place}
use Rattle.vd_tokens.specs.declared.kinds.Kind.TheVariants.{End}
use Rattle.vd_tokens.specs.Lexemes.{Lexeme}
use Rattle.vd_lex.specs.declared.states.State.{State}
use Rattle.vd_lex.specs.Pieces.{Piece, passes, reads, refuses, piece_at, after, past_line, first_state}

-- where a text is read: what stands before, the place, the rest of the line and the lines behind it
pub record Position : Type 0 where
  pub state : State
  pub place : Place
  pub rest : List ℕ
  pub lines : List Line

-- what happens at a position: a piece or a line's end is read; a rule is broken there; or the text is read to its end
pub data Step : Type 0 where
  goes : (ts : List Lexeme) → (to : Position) → Step
  breaks : (rule : ℕ) → (place : Place) → Step
  ends : Step

abbrev pub moved : Place → ℕ → Place
moved p n = record p { column = p.column + n }

abbrev pub at_piece : Position → Piece → Step
at_piece a (passes n next) = goes [] (record { state = next; place = moved a.place n; rest = drop n a.rest; lines = a.lines })
at_piece a (reads n k text) =
    goes (record { kind = k; text = text; place = a.place } ∷ []) (record { state = after k; place = moved a.place n; rest = drop n a.rest; lines = a.lines })
at_piece a (refuses rule) = breaks rule a.place

-- at the end of the last line a comment must have its end
abbrev pub at_end : Option Place → Step
at_end None = ends
at_end (Some p) = breaks 102 p

abbrev pub at_line_end : State → Place → List Line → Step
at_line_end st p [] = at_end st.comment
at_line_end st p (l ∷ ls) = goes [] (record { state = past_line st; place = place_at p.file l.number 1; rest = l.bytes; lines = ls })

abbrev pub step_by : Revision → Position → List ℕ → Step
step_by r a [] = at_line_end a.state a.place a.lines
step_by r a (b ∷ bs) = at_piece a (piece_at r a.state a.place (b ∷ bs))

abbrev pub step_at : Revision → Position → Step
step_at r a = step_by r a a.rest

-- from one position to another these tokens are read
pub data Reads (r : Revision) : Position → List Lexeme → Position → Type 0 where
  here : (a : Position) → Reads r a [] a
  further : (a b c : Position) (ts us : List Lexeme) → step_at r a ≡ goes ts b → Reads r b us c → Reads r a (ts ++ us) c

-- in front of the first line
abbrev pub start : Selected → Position
start s = record { state = first_state; place = place_at s.file 1 1; rest = []; lines = s.lines }

abbrev pub end_token : Selected → Lexeme
end_token s = record { kind = End; text = []; place = end_place s.file s.lines }

-- the whole text is read, and these are its tokens, with the end behind them
pub record IsTokenList (r : Revision) (s : Selected) (ts : List Lexeme) : Type 0 where
  pub before : List Lexeme
  pub last : Position
  pub read : Reads r (start s) before last
  pub ended : step_at r last ≡ ends
  pub tokens : ts ≡ before ++ end_token s ∷ []

-- the text is read up to where this rule is broken
pub record BreaksAt (r : Revision) (s : Selected) (rule : ℕ) (place : Place) : Type 0 where
  pub before : List Lexeme
  pub last : Position
  pub read : Reads r (start s) before last
  pub broken : step_at r last ≡ breaks rule place

-- what a refusal says: the first break; and memory may run out at any text
abbrev pub IsBreakOf : Revision → Selected → Refusal → Type 0
IsBreakOf r s (Refused e) = BreaksAt r s e.rule e.place
IsBreakOf r s Memory = Unit {0}

-- ---- the answer

pub data Lexing : Type 0 where
  lexed : (ts : List Lexeme) → Lexing
  refused : (rule : ℕ) → (place : Place) → Lexing

abbrev pub IsLexing : Revision → Selected → Lexing → Type 0
IsLexing r s (lexed ts) = IsTokenList r s ts
IsLexing r s (refused rule place) = BreaksAt r s rule place

-- no text has two lexings: two token lists are equal, two breaks are, and where one is the other isn't
abbrev pub HasOneLexing : Type 0
HasOneLexing = (r : Revision) (s : Selected) (a b : Lexing) → IsLexing r s a → IsLexing r s b → a ≡ b

-- and each text has one
abbrev pub HasSomeLexing : Type 0
HasSomeLexing = (r : Revision) (s : Selected) → (a : Lexing) × IsLexing r s a
