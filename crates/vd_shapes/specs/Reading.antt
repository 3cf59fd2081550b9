-- What a reader of tokens answers.
use Rattle.std.specs.Prelude.{◌≡◌, ℕ, ◌+◌, Bool, true, false, nat_lt, if◌then◌else◌, List, [], ◌∷◌, slice_get, Some}
use Rattle.std.specs.List.{list_any}
use Rattle.vd_bytes.specs.declared.answers.Refused.{Refused}
use Rattle.vd_tokens.specs.declared.kinds.Kind.{Kind}
use Rattle.vd_tokens.specs.declared.kinds.Kind.TheVariants as kind
use Rattle.vd_tokens.specs.Lexemes.{Lexeme}
use Rattle.vd_gram.specs.declared.tables.Table.{Table}
use Rattle.vd_gram.specs.Claims.{has, end_symbol}
use Rattle.vd_gram.specs.Derivations.{IsRefused, IsTooDeep}
use Rattle.vd_shapes.specs.declared.reading.GrammarEnd.{GrammarEnd}
use Rattle.vd_shapes.specs.declared.reading.GrammarEnd.TheVariants as end

-- the terminal that a token of a kind is: five kinds, 31 marks behind them, and 115 words behind these. The end is none
abbrev pub symbol_of : Kind → ℕ
symbol_of kind.Name = 0
symbol_of kind.Number = 1
symbol_of kind.Letter = 2
symbol_of kind.Quoted = 3
symbol_of kind.Bits = 4
symbol_of (kind.Mark n) = if nat_lt n 31 then n + 5 else end_symbol
symbol_of (kind.Word n) = if nat_lt n 115 then n + 36 else end_symbol
symbol_of kind.End = end_symbol

-- the symbols of the tokens in front of the end
abbrev pub symbols_in : List Lexeme → List ℕ
symbols_in [] = []
symbols_in (t ∷ []) = []
symbols_in (t ∷ u ∷ ts) = symbol_of t.kind ∷ symbols_in (u ∷ ts)

-- a symbol stands on the right of some production
abbrev pub is_used : Table → ℕ → Bool
is_used t s = list_any (λ p. has p.right.now s) t.productions.now

-- a reserved word
abbrev pub is_word : Kind → Bool
is_word (kind.Word n) = true
is_word _ = false

-- 202 at a reserved word that the grammar has nowhere, and 201 at any other token
abbrev pub rule_at : Table → Kind → ℕ
rule_at t (kind.Word n) = if is_used t (symbol_of (kind.Word n)) then 201 else 202
rule_at t _ = 201

-- the tokens are refused at the first one with which no text goes on
pub record IsRefusedAt (t : Table) (tokens : List Lexeme) (deep : ℕ) (refused : Refused) : Type 0 where
  pub number : ℕ
  pub token : Lexeme
  pub at : slice_get tokens number ≡ Some token
  pub refused_there : IsRefused t (symbols_in tokens) deep number
  pub place : refused.place ≡ token.place
  pub rule : refused.rule ≡ rule_at t token.kind

-- what is answered where there is no tree. Want of memory says nothing of the tokens
abbrev pub IsReadEnd : Table → List Lexeme → ℕ → GrammarEnd → Type 0
IsReadEnd t tokens deep (end.Refused refused) = IsRefusedAt t tokens deep refused
IsReadEnd t tokens deep end.Nesting = IsTooDeep t (symbols_in tokens) deep
IsReadEnd t tokens deep end.Memory = Unit {0}
