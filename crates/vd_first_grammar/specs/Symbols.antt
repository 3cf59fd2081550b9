-- What the grammar asks of a token: a reserved word, a mark, a certain name, any name, or the end of the file.
use Rattle.std.specs.Prelude.{◌≡◌, ℕ, List, [], ◌∷◌}
use Rattle.vd_first_lex.specs.declared.tokens.Kind.TheVariants.{Name, Word, Mark, End}
use Rattle.vd_first_lex.specs.declared.tokens.Token.{Token}

pub data Symbol : Type 0 where
  word : ℕ → Symbol
  mark : ℕ → Symbol
  named : List ℕ → Symbol
  ending : Symbol

abbrev pub IsName : Token → Type 0
IsName t = t.kind ≡ Name

abbrev pub Is : Symbol → Token → Type 0
Is (word n) t = t.kind ≡ Word n
Is (mark n) t = t.kind ≡ Mark n
Is (named text) t = (t.kind ≡ Name) × (t.text ≡ text)
Is ending t = t.kind ≡ End

-- the tokens are these symbols, one by one
abbrev pub Spell : List Symbol → List Token → Type 0
Spell [] [] = Unit {0}
Spell [] (t ∷ ts) = ⊥
Spell (s ∷ ss) [] = ⊥
Spell (s ∷ ss) (t ∷ ts) = Is s t × Spell ss ts
