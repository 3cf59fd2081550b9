-- How tokens are laid out. Each is a statement on a token and all those before it.
use Rattle.std.specs.Prelude.{ℕ, ◌-◌, ◌*◌, Bool, true, false, not, ◌&&◌, ◌||◌, List, [], ◌∷◌, ◌++◌, count_by, replicate, ◌==◌, if◌then◌else◌}
use Rattle.vd_first_lex.specs.declared.tokens.Kind.{Kind}
use Rattle.vd_first_lex.specs.declared.tokens.Kind.TheVariants.{Name, Word, Mark}
use Rattle.vd_first_lex.specs.declared.tokens.Token.{Token}
use Rattle.vd_first_lex.specs.declared.tokens.TheConstants.{BEGIN, END, IS, OPENING, CLOSING, COMMA, POINT, SEMICOLON}
use Rattle.vd_first_lex.specs.Spellings.{spelling_of}

abbrev pub is_word : ℕ → Kind → Bool
is_word n (Word k) = k == n
is_word n _ = false

abbrev pub is_mark : ℕ → Kind → Bool
is_mark n (Mark k) = k == n
is_mark n _ = false

abbrev pub is_name_kind : Kind → Bool
is_name_kind Name = true
is_name_kind _ = false

-- how many tokens of a kind
abbrev pub count_marks : ℕ → List Token → ℕ
count_marks n ts = count_by (λ t. is_mark n t.kind) ts

abbrev pub count_words : ℕ → List Token → ℕ
count_words n ts = count_by (λ t. is_word n t.kind) ts

-- a line ends after a semicolon outside brackets, after an `is` that opens a unit or a process, as each does here, and
-- after `begin`
abbrev pub ends_line : List Token → Token → Bool
ends_line before t =
    (is_mark SEMICOLON t.kind && (count_marks OPENING before == count_marks CLOSING before))
    || (is_word IS t.kind || is_word BEGIN t.kind)

-- one space stands between two tokens of a line, but none before ; , ) . and none after ( . and none before ( after a
-- name or )
abbrev pub is_spaced : Kind → Kind → Bool
is_spaced left right =
    not (is_mark SEMICOLON right || (is_mark COMMA right || (is_mark CLOSING right || is_mark POINT right)))
    && (not (is_mark OPENING left || is_mark POINT left) && not (is_mark OPENING right && (is_name_kind left || is_mark CLOSING left)))

-- a body is open from its `is` to its `end`
abbrev pub open_bodies : List Token → ℕ
open_bodies before = count_words IS before - count_words END before

-- the words `begin` and `end` stand one level further out than the body
abbrev pub level_of : List Token → Token → ℕ
level_of before t = if is_word BEGIN t.kind || is_word END t.kind then open_bodies before - 1 else open_bodies before

-- two spaces a level
abbrev pub line_start : ℕ → List ℕ
line_start level = 10 ∷ replicate (2 * level) 32

-- what stands between a token and the one before it, before which others stand
abbrev pub gap : List Token → Token → Token → List ℕ
gap before last t =
    if ends_line before last then line_start (level_of (before ++ last ∷ []) t) else (if is_spaced last.kind t.kind then 32 ∷ [] else [])

-- the tokens behind a last one, before which others stand
abbrev pub laid_after : List Token → Token → List Token → List ℕ
laid_after before last [] = 10 ∷ []
laid_after before last (t ∷ ts) = gap before last t ++ (spelling_of t.kind t.text ++ laid_after (before ++ last ∷ []) t ts)

abbrev pub layout_of : List Token → List ℕ
layout_of [] = []
layout_of (t ∷ ts) = spelling_of t.kind t.text ++ laid_after [] t ts
