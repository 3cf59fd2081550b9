-- What is refused in a token list, and where: the first token with which no text of the language goes on, a nesting
-- beyond the limit, a name that is no port.
use Rattle.std.specs.Prelude.{◌≡◌, ◌<◌, ◌≤◌, ℕ, suc, List, [], ◌∷◌, ◌++◌, length, take, slice_index, slice_index_or, Contains}
use Rattle.std.specs.List.{flat_map, AllByRecursion}
use Rattle.vd_bytes.specs.declared.places.Place.{Place}
use Rattle.vd_trees.specs.declared.revision.Revision.{Revision}
use Rattle.vd_trees.specs.declared.revision.Revision.TheVariants.{V2019, V1993}
use Rattle.vd_first_lex.specs.declared.tokens.Kind.TheVariants.{End}
use Rattle.vd_first_lex.specs.declared.tokens.Token.{Token}
use Rattle.vd_first_lex.specs.declared.tokens.TheConstants.{NESTING_LIMIT, NESTING93_LIMIT}
use Rattle.vd_first_grammar.specs.Derivations.{File, IsFile, file_tokens, ports_of}
use Rattle.vd_first_grammar.specs.Conditions.{MeetsConditions, file_depths, texts_of, port_names, process_names}

-- a derivation of the tokens whose names meet the conditions
pub record IsInLanguage (r : Revision) (ts : List Token) : Type 0 where
  pub file : File
  pub is_file : IsFile r file
  pub tokens : file_tokens file ≡ ts
  pub conditions : MeetsConditions file

-- some text of the language goes on from these tokens
pub record GoesOn (r : Revision) (front : List Token) : Type 0 where
  pub rest : List Token
  pub whole : IsInLanguage r (front ++ rest)

-- the token at k is the first one with which no text of the language goes on
pub record IsHopelessAt (r : Revision) (ts : List Token) (k : ℕ) : Type 0 where
  pub within : k < length ts
  pub before : GoesOn r (take k ts)
  pub none : GoesOn r (take (suc k) ts) → ⊥

abbrev pub nesting_limit : Revision → ℕ
nesting_limit V2019 = NESTING_LIMIT
nesting_limit V1993 = NESTING93_LIMIT

-- with the token at k, which fits the grammar, a node begins beyond the limit
pub record IsDeepAt (r : Revision) (ts : List Token) (k : ℕ) : Type 0 where
  pub within : k < length ts
  pub file : File
  pub rest : List Token
  pub is_file : IsFile r file
  pub tokens : file_tokens file ≡ take (suc k) ts ++ rest
  pub deep : nesting_limit r < slice_index (file_depths file) k

-- nothing is refused, and the limit is kept
pub record IsRead (r : Revision) (ts : List Token) (f : File) : Type 0 where
  pub is_file : IsFile r f
  pub tokens : file_tokens f ≡ ts
  pub conditions : MeetsConditions f
  pub shallow : AllByRecursion (λ d. d ≤ nesting_limit r) (file_depths f)

-- the first that is found, from the front, is a token with which no text goes on
pub record IsRefusedAt (r : Revision) (ts : List Token) (k : ℕ) : Type 0 where
  pub hopeless : IsHopelessAt r ts k
  pub shallow : (j : ℕ) → j ≤ k → IsDeepAt r ts j → ⊥

-- the first that is found is the limit; where both are found at one token, it is the limit
pub record IsTooDeepAt (r : Revision) (ts : List Token) (k : ℕ) : Type 0 where
  pub deep : IsDeepAt r ts k
  pub before : GoesOn r (take k ts)
  pub shallow : (j : ℕ) → j < k → IsDeepAt r ts j → ⊥

abbrev pub no_token : Token
no_token = record { kind = End; text = []; place = record { file = 0; line = 0; column = 0 } }

abbrev pub token_in : List Token → ℕ → Token
token_in ts k = slice_index_or ts k no_token

abbrev pub place_of_token : List Token → ℕ → Place
place_of_token ts k = (token_in ts k).place

-- ---- names

abbrev pub IsPortName : File → Token → Type 0
IsPortName f t = Contains (texts_of (port_names (ports_of f))) t.text

abbrev pub object_names : File → List Token
object_names f = flat_map process_names f.processes

abbrev pub AllNamesKnown : File → Type 0
AllNamesKnown f = AllByRecursion (IsPortName f) (object_names f)

-- the first name in the order of the text that is no port
pub record IsFirstUnknown (f : File) (t : Token) : Type 0 where
  pub before : List Token
  pub after : List Token
  pub names : object_names f ≡ before ++ t ∷ after
  pub known : AllByRecursion (IsPortName f) before
  pub unknown : IsPortName f t → ⊥
