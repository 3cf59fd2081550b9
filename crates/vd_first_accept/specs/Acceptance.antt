-- What a text of a revision is answered with: the first that is due of a break in the lexis, too many tokens, what the
-- grammar refuses or the nesting limit, an unknown name, and the tree.
use Rattle.std.specs.Prelude.{◌≡◌, ◌<◌, ◌≤◌, ◌⊎◌, ℕ, ◌+◌, List, [], ◌∷◌, length}
use Rattle.vd_bytes.specs.declared.answers.Refused.{Refused}
use Rattle.vd_bytes.specs.declared.answers.Limit.{Limit}
use Rattle.vd_bytes.specs.declared.answers.Limit.TheVariants.{Tokens, Nesting, Nesting93}
use Rattle.vd_forest.specs.Forest.{Forest}
use Rattle.vd_first_trees.specs.declared.form.Form.{Form}
use Rattle.vd_trees.specs.declared.revision.Revision.{Revision}
use Rattle.vd_trees.specs.declared.revision.Revision.TheVariants.{V2019, V1993}
use Rattle.vd_first_lex.specs.declared.selected.Selected.{Selected}
use Rattle.vd_first_lex.specs.declared.tokens.Token.{Token}
use Rattle.vd_first_lex.specs.declared.tokens.TheConstants.{TOKENS_LIMIT}
use Rattle.vd_first_lex.specs.Lexis.{IsTokenList, BreaksAt}
use Rattle.vd_first_grammar.specs.Derivations.{File}
use Rattle.vd_first_grammar.specs.Refusals.{IsRead, IsRefusedAt, IsTooDeepAt, IsFirstUnknown, AllNamesKnown, place_of_token}
use Rattle.vd_first_grammar.specs.Shapes.{file_shape}
use Rattle.vd_first_accept.specs.declared.acceptance.ConvertEnd.{ConvertEnd}
use Rattle.vd_first_accept.specs.declared.acceptance.ConvertEnd.TheVariants as ends

pub data Acceptance : Type 0 where
  refused : (x : Refused) → Acceptance
  beyond : (limit : Limit) → Acceptance
  accepted : (units : Forest Form) → Acceptance

-- the token list of a file with no more tokens than the limit, the end not counted
pub record HasTokens (r : Revision) (s : Selected) (ts : List Token) : Type 0 where
  pub tokens : IsTokenList r s ts
  pub few : length ts ≤ TOKENS_LIMIT + 1

-- a byte at which no token begins
pub record LexisRefuses (r : Revision) (s : Selected) (x : Refused) : Type 0 where
  pub rule : x.rule ≡ 101
  pub breaks : BreaksAt r s x.place

-- a token with which no text of the language goes on
pub record GrammarRefuses (r : Revision) (s : Selected) (x : Refused) : Type 0 where
  pub rule : x.rule ≡ 201
  pub tokens : List Token
  pub has_tokens : HasTokens r s tokens
  pub index : ℕ
  pub refused : IsRefusedAt r tokens index
  pub place : x.place ≡ place_of_token tokens index

-- a name that is no port
pub record NamesRefuse (r : Revision) (s : Selected) (x : Refused) : Type 0 where
  pub rule : x.rule ≡ 303
  pub tokens : List Token
  pub has_tokens : HasTokens r s tokens
  pub file : File
  pub read : IsRead r tokens file
  pub name : Token
  pub unknown : IsFirstUnknown file name
  pub place : x.place ≡ name.place

pub record HasManyTokens (r : Revision) (s : Selected) : Type 0 where
  pub tokens : List Token
  pub is_list : IsTokenList r s tokens
  pub many : TOKENS_LIMIT + 1 < length tokens

pub record NestsTooDeep (r : Revision) (s : Selected) : Type 0 where
  pub tokens : List Token
  pub has_tokens : HasTokens r s tokens
  pub index : ℕ
  pub deep : IsTooDeepAt r tokens index

-- nothing is refused, and these are the design units of the text
pub record IsAccepted (r : Revision) (s : Selected) (units : Forest Form) : Type 0 where
  pub tokens : List Token
  pub has_tokens : HasTokens r s tokens
  pub file : File
  pub read : IsRead r tokens file
  pub known : AllNamesKnown file
  pub units_are : units ≡ file_shape file

-- each revision has a nesting limit of its own
abbrev pub PassesLimit : Revision → Selected → Limit → Type 0
PassesLimit r s Tokens = HasManyTokens r s
PassesLimit V2019 s Nesting = NestsTooDeep V2019 s
PassesLimit V1993 s Nesting93 = NestsTooDeep V1993 s
PassesLimit _ s _ = ⊥

abbrev pub IsAcceptance : Revision → Selected → Acceptance → Type 0
IsAcceptance r s (refused x) = LexisRefuses r s x ⊎ (GrammarRefuses r s x ⊎ NamesRefuse r s x)
IsAcceptance r s (beyond limit) = PassesLimit r s limit
IsAcceptance r s (accepted units) = IsAccepted r s units

-- what a call gave that accepts nothing is that answer, unless memory ran out
abbrev pub IsUnaccepted : Revision → Selected → ConvertEnd → Type 0
IsUnaccepted r s (ends.Refused x) = IsAcceptance r s (refused x)
IsUnaccepted r s (ends.Limit limit) = IsAcceptance r s (beyond limit)
IsUnaccepted r s ends.Memory = Unit {0}

-- the one file of a call
abbrev pub IsOnly : List Selected → Selected → Type 0
IsOnly files s = files ≡ s ∷ []

-- in each revision, two answers for a file are equal
abbrev pub HasOneAcceptance : Type 0
HasOneAcceptance = (r : Revision) (s : Selected) (a b : Acceptance) → IsAcceptance r s a → IsAcceptance r s b → a ≡ b
