-- What a line is cut into: tokens, spacing and comments. (IEEE 1076, lexical elements: separators, comments.)
use Rattle.std.specs.Prelude.{ℕ, Bool, true, false, ◌&&◌, ◌||◌, ◌==◌, nat_le, List, [], ◌∷◌, length, Option, Some, None, if◌then◌else◌}
use Rattle.vd_bytes.specs.declared.places.Place.{Place}
use Rattle.vd_trees.specs.declared.revision.Revision.{Revision}
use Rattle.vd_trees.specs.declared.revision.Revision.TheVariants.{V2019, V1993}
use Rattle.vd_tokens.specs.declared.kinds.Kind.{Kind}
use Rattle.vd_tokens.specs.declared.kinds.Kind.TheVariants as kind
use Rattle.vd_literals.specs.Quoted.{begins_with}
use Rattle.vd_lex.specs.declared.states.State.{State}
use Rattle.vd_lex.specs.Items.{Item, token, broken, item_at}

-- space, the tab, the line feed, the vertical tab, the form feed and the carriage return
abbrev pub is_spacing : ℕ → Bool
is_spacing b = b == 32 || (nat_le 9 b && nat_le b 13)

-- ---- spacing next to numbers

abbrev pub is_number : Option Kind → Bool
is_number None = false
is_number (Some kind.Number) = true
is_number (Some _) = false

abbrev pub is_name_or_word : Option Kind → Bool
is_name_or_word None = false
is_name_or_word (Some kind.Name) = true
is_name_or_word (Some (kind.Word n)) = true
is_name_or_word (Some _) = false

-- of these two neighbours one is a number, and the other a number, a name or a word
abbrev pub need_spacing : Option Kind → Option Kind → Bool
need_spacing last next = (is_number last && (is_number next || is_name_or_word next)) || (is_name_or_word last && is_number next)

-- ---- pieces

-- so many bytes are spacing or comment, and leave this state; or they are a token; or a rule is broken
pub data Piece : Type 0 where
  passes : (n : ℕ) → (next : State) → Piece
  reads : (n : ℕ) → (k : Kind) → (text : List ℕ) → Piece
  refuses : (rule : ℕ) → Piece

-- a token of this kind, if it is one, stands too near to the one that was read last
abbrev pub is_too_near : State → Option Kind → Bool
is_too_near st k = st.near && need_spacing st.last k

-- spacing that is missing breaks a rule whose number is less than that of any other that a number breaks
abbrev pub checked : State → Item → Piece
checked st (token n k text) = if is_too_near st (Some k) then refuses 103 else reads n k text
checked st (broken k rule) = if is_too_near st k then refuses 103 else refuses rule

-- two hyphens (45) begin a comment that ends with the line
abbrev pub begins_line_comment : ℕ → List ℕ → Bool
begins_line_comment b bs = b == 45 && begins_with 45 bs

-- in revision 2019 a solidus (47) and an asterisk (42) begin a comment that may go on over lines
abbrev pub begins_comment : Revision → ℕ → List ℕ → Bool
begins_comment V2019 b bs = b == 47 && begins_with 42 bs
begins_comment V1993 b bs = false

abbrev pub ends_comment : ℕ → List ℕ → Bool
ends_comment b bs = b == 42 && begins_with 47 bs

abbrev pub without_near : State → State
without_near st = record st { near = false }

abbrev pub with_comment : Option Place → State → State
with_comment c st = record st { comment = c }

abbrev pub outside : Revision → State → Place → ℕ → List ℕ → Piece
outside r st p b bs =
    if is_spacing b then passes 1 (without_near st)
    else (if begins_line_comment b bs then passes (length (b ∷ bs)) st
    else (if begins_comment r b bs then passes 2 (with_comment (Some p) st) else checked st (item_at r st.last (b ∷ bs))))

-- in a comment every byte passes, and the asterisk and solidus end it
abbrev pub inside : State → ℕ → List ℕ → Piece
inside st b bs = if ends_comment b bs then passes 2 (with_comment None st) else passes 1 st

abbrev pub piece_by : Revision → State → Place → ℕ → List ℕ → Option Place → Piece
piece_by r st p b bs None = outside r st p b bs
piece_by r st p b bs (Some q) = inside st b bs

-- the piece that stands first in the rest of a line
abbrev pub piece_at : Revision → State → Place → List ℕ → Piece
piece_at r st p [] = passes 0 st
piece_at r st p (b ∷ bs) = piece_by r st p b bs st.comment

-- behind a token
abbrev pub after : Kind → State
after k = record { last = Some k; near = true; comment = None }

-- a line's end is spacing, but in a comment
abbrev pub past_line : State → State
past_line st = elim st.comment [ Some p ↦ st | None ↦ without_near st ]

abbrev pub first_state : State
first_state = record { last = None; near = false; comment = None }
