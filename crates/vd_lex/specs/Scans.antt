-- Words for the lexer's own functions: what a call reads, and what it leaves.
use Rattle.std.specs.Prelude.{◌≡◌, ℕ, List, [], ◌∷◌, ◌++◌, Some}
use Rattle.vd_bytes.specs.declared.answers.Refusal.{Refusal}
use Rattle.vd_bytes.specs.declared.answers.Refusal.TheVariants.{Refused, Memory}
use Rattle.vd_bytes.specs.declared.places.Place.{Place}
use Rattle.vd_trees.specs.declared.revision.Revision.{Revision}
use Rattle.vd_directives.specs.declared.selected.Line.{Line}
use Rattle.vd_directives.specs.declared.selected.Selected.{Selected}
use Rattle.vd_directives.specs.Lines.{place_at}
use Rattle.vd_tokens.specs.Lexemes.{Lexeme}
use Rattle.vd_lex.specs.declared.states.State.{State}
use Rattle.vd_lex.specs.Pieces.{Piece, passes, reads, refuses, after}
use Rattle.vd_lex.specs.Lexis.{Position, Reads, breaks, step_at, start}

-- a piece of n bytes was read at a place
abbrev pub IsPieceRead : Piece → Place → ℕ → State → List Lexeme → List Lexeme → Type 0
IsPieceRead (passes m next) p n new old_tokens new_tokens = (n ≡ m) × (new ≡ next) × (new_tokens ≡ old_tokens)
IsPieceRead (reads m k text) p n new old_tokens new_tokens =
    (n ≡ m) × (new ≡ after k) × (new_tokens ≡ old_tokens ++ record { kind = k; text = text; place = p } ∷ [])
IsPieceRead (refuses rule) p n new old_tokens new_tokens = ⊥

-- a piece was refused at a place
abbrev pub IsRefusedBy : Piece → Place → Refusal → Type 0
IsRefusedBy piece p (Refused e) = (piece ≡ refuses e.rule) × (e.place ≡ p)
IsRefusedBy piece p Memory = Unit {0}

-- a position with these lines behind it
abbrev pub position : State → Place → List ℕ → List Line → Position
position st p bs ls = record { state = st; place = p; rest = bs; lines = ls }

-- from one position of a line to another tokens were read, whatever lines stand behind, and they came to those before
pub record ReadsTokens (r : Revision) (old new : List Lexeme) (st : State) (p : Place) (bs : List ℕ) (st' : State) (q : Place) (cs : List ℕ) : Type 0 where
  pub tokens : List Lexeme
  pub read : (ls : List Line) → Reads r (position st p bs ls) tokens (position st' q cs ls)
  pub added : new ≡ old ++ tokens

-- the text of a line was read to its end, in the state that its front leaves
pub record IsLineRead (r : Revision) (file : ℕ) (l : Line) (old new : List Lexeme) (st st' : State) : Type 0 where
  pub place : Place
  pub same_file : place.file ≡ file
  pub read : ReadsTokens r old new st (place_at file l.number 1) l.bytes st' place []

-- the text of a line was read to where this rule is broken
pub record IsLineBroken (r : Revision) (file : ℕ) (l : Line) (st : State) (rule : ℕ) (at : Place) : Type 0 where
  pub last : State
  pub place : Place
  pub rest : List ℕ
  pub tokens : List Lexeme
  pub read : (ls : List Line) → Reads r (position st (place_at file l.number 1) l.bytes ls) tokens (position last place rest ls)
  pub broken : (ls : List Line) → step_at r (position last place rest ls) ≡ breaks rule at

abbrev pub IsLineRefused : Revision → ℕ → Line → State → Refusal → Type 0
IsLineRefused r file l st (Refused e) = IsLineBroken r file l st e.rule e.place
IsLineRefused r file l st Memory = Unit {0}

-- the text in front of these lines was read
pub record IsTextRead (r : Revision) (s : Selected) (tokens : List Lexeme) (st : State) (ls : List Line) : Type 0 where
  pub place : Place
  pub same_file : place.file ≡ s.file
  pub read : Reads r (start s) tokens (position st place [] ls)

-- a comment isn't ended that began there
abbrev pub IsUnended : State → Refusal → Type 0
IsUnended st (Refused e) = (e.rule ≡ 102) × (st.comment ≡ Some e.place)
IsUnended st Memory = Unit {0}
