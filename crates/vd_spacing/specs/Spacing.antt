-- How laid out tokens stand: the spacing between two tokens of a line, and the bytes of tokens with what stands in front of
-- each. Spacing is free but where two tokens would run together. (IEEE 1076, lexical elements, separators, and delimiters.)
use Rattle.std.specs.Prelude.{ℕ, ◌*◌, Bool, true, false, not, ◌&&◌, ◌||◌, ◌==◌, List, [], ◌∷◌, ◌++◌, replicate}
use Rattle.vd_tokens.specs.declared.kinds.Kind.{Kind}
use Rattle.vd_tokens.specs.declared.kinds.Kind.TheVariants.{Name, Quoted, Mark}
use Rattle.vd_tokens.specs.declared.kinds.TheConstants.{APOSTROPHE, CLOSING}
use Rattle.vd_tokens.specs.Spellings.{spelling_of}
use Rattle.vd_spacing.specs.declared.spacing.TheConstants.{OPENING, COMMA, POINT, SEMICOLON}

-- ---- two tokens of a line

abbrev pub is_mark : ℕ → Kind → Bool
is_mark n (Mark k) = k == n
is_mark n _ = false

-- no space stands in front of ; , ) . and '
abbrev pub stands_close_behind : Kind → Bool
stands_close_behind k =
    is_mark SEMICOLON k || (is_mark COMMA k || (is_mark CLOSING k || (is_mark POINT k || is_mark APOSTROPHE k)))

-- no space stands behind ( . and '
abbrev pub stands_close_before : Kind → Bool
stands_close_before k = is_mark OPENING k || (is_mark POINT k || is_mark APOSTROPHE k)

-- no space stands between one of these and a (
abbrev pub may_be_called : Kind → Bool
may_be_called Name = true
may_be_called Quoted = true
may_be_called (Mark n) = n == CLOSING
may_be_called _ = false

-- one space stands between any others
abbrev pub is_spaced : Kind → Kind → Bool
is_spaced left right =
    not (stands_close_behind right) && (not (stands_close_before left) && not (is_mark OPENING right && may_be_called left))

-- ---- laid out tokens

-- what stands in front of a token: nothing, a space, or the end of a line and so many steps of two spaces
pub data Spacing : Type 0 where
  touching : Spacing
  spaced : Spacing
  new_line : (level : ℕ) → Spacing

abbrev pub spacing_bytes : Spacing → List ℕ
spacing_bytes touching = []
spacing_bytes spaced = 32 ∷ []
spacing_bytes (new_line level) = 10 ∷ replicate (2 * level) 32

-- a token with what stands in front of it
pub record Laid : Type 0 where
  pub spacing : Spacing
  pub kind : Kind
  pub text : List ℕ

-- the tokens behind the first one, and the end of the last line
abbrev pub laid_behind : List Laid → List ℕ
laid_behind [] = 10 ∷ []
laid_behind (t ∷ ts) = spacing_bytes t.spacing ++ (spelling_of t.kind t.text ++ laid_behind ts)

-- a file begins with its first token
abbrev pub laid_bytes : List Laid → List ℕ
laid_bytes [] = []
laid_bytes (t ∷ ts) = spelling_of t.kind t.text ++ laid_behind ts
