-- What contracts see of a token.
use Rattle.std.specs.Prelude.{ℕ, List}
use Rattle.vd_bytes.specs.declared.places.Place.{Place}
use Rattle.vd_tokens.specs.declared.kinds.Kind.{Kind}

-- a token's kind, its text and the place of its first byte
pub record Lexeme : Type 0 where
  pub kind : Kind
  pub text : List ℕ
  pub place : Place
