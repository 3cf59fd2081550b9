-- A list's tokens, whose texts are parts of the list's bytes.
use Rattle.std.specs.Prelude.{◌≡◌, ℕ, ◌+◌, ◌≤◌, List, ◌++◌, take, drop}
use Rattle.vd_tokens.specs.declared.tokens.Cell.{Cell}
use Rattle.vd_tokens.specs.Lexemes.{Lexeme}

abbrev pub lexeme_in : List ℕ → Cell → Lexeme
lexeme_in bytes c = record { kind = c.kind; text = take c.length (drop c.start bytes); place = c.place }

-- the token's text ends within so many bytes
abbrev pub IsWithin : ℕ → Cell → Type 0
IsWithin n c = c.start + c.length ≤ n

-- the old bytes stand in front of the new ones
pub record KeepsBytes (old new : List ℕ) : Type 0 where
  pub behind : List ℕ
  pub are : new ≡ old ++ behind
