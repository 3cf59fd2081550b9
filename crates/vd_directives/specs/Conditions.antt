-- Conditions of directives. (IEEE 1076-2019, conditional analysis tool directives.)
use Rattle.std.specs.Prelude.{ℕ, zero, suc, Bool, true, false, not, ◌&&◌, ◌||◌, List, [], ◌∷◌, length, Option, Some, None, codes, if◌then◌else◌}
use Rattle.std.specs.List.{list_any}
use Rattle.std.specs.Str.{bytes_eq}
use Rattle.std.specs.Cmp.Lexicographic.{slice_cmp}
use Rattle.std.specs.Ordering.{nat_cmp}
use Rattle.std.specs.declared.cmp.Ordering as ordering
use Rattle.std.specs.declared.cmp.Ordering.TheVariants.{Less, Equal, Greater}
use Rattle.vd_trees.specs.Identifiers.{is_name}
use Rattle.vd_trees.specs.Words.{reserved_words}
use Rattle.vd_trees.specs.declared.revision.Revision.TheVariants.{V2019}
use Rattle.vd_directives.specs.declared.words.Operator.{Operator}
use Rattle.vd_directives.specs.declared.words.Operator.TheVariants.{And, Or, Xor, Xnor}
use Rattle.vd_directives.specs.declared.words.Keyword.{Keyword}
use Rattle.vd_directives.specs.declared.words.Keyword.TheVariants.{Not, Then, Join, Other}
use Rattle.vd_directives.specs.declared.words.Known.{Known}
use Rattle.vd_directives.specs.declared.words.Known.TheVariants.{Revision, ToolType, ToolName, ToolEdition, ToolVersion, Unset}
use Rattle.vd_directives.specs.declared.conditions.Chain.{Chain}
use Rattle.vd_directives.specs.declared.pieces.Relator.{Relator}
use Rattle.vd_directives.specs.declared.pieces.Relator.TheVariants.{Same, Differs, Below, AtMost, Above, AtLeast}
use Rattle.vd_directives.specs.declared.pieces.Piece.{Piece}
use Rattle.vd_directives.specs.declared.pieces.Piece.TheVariants.{Word, Quoted, Compare, Opening, Closing}

-- ---- relations

abbrev pub is_reserved : List ℕ → Bool
is_reserved word = list_any (bytes_eq word) (reserved_words V2019)

-- a name that is no reserved word
abbrev pub is_identifier : List ℕ → Bool
is_identifier word = is_name word && not (is_reserved word)

-- which identifier a name is
abbrev pub known_of : List ℕ → Known
known_of name =
    if bytes_eq name (codes "vhdl_version") then Revision
    else (if bytes_eq name (codes "tool_type") then ToolType
    else (if bytes_eq name (codes "tool_vendor") then ToolName
    else (if bytes_eq name (codes "tool_name") then ToolName
    else (if bytes_eq name (codes "tool_edition") then ToolEdition
    else (if bytes_eq name (codes "tool_version") then ToolVersion
    else Unset)))))

-- The text that it has, `tool` being that of TOOL_TYPE. Each other identifier has the empty text.
abbrev pub text_of : List ℕ → Known → List ℕ
text_of tool Revision = codes "2019"
text_of tool ToolType = tool
text_of tool ToolName = codes "VDOWN"
text_of tool ToolEdition = codes "1"
text_of tool ToolVersion = codes "1.0"
text_of tool Unset = []

abbrev pub is_less : ordering.Ordering → Bool
is_less Less = true
is_less Equal = false
is_less Greater = false

abbrev pub is_greater : ordering.Ordering → Bool
is_greater Less = false
is_greater Equal = false
is_greater Greater = true

-- texts stand in the order of their bytes
abbrev pub relates : Relator → List ℕ → List ℕ → Bool
relates Same left right = bytes_eq left right
relates Differs left right = not (bytes_eq left right)
relates Below left right = is_less (slice_cmp nat_cmp left right)
relates AtMost left right = not (is_greater (slice_cmp nat_cmp left right))
relates Above left right = is_greater (slice_cmp nat_cmp left right)
relates AtLeast left right = not (is_less (slice_cmp nat_cmp left right))

-- ---- chains of one operator

-- what a word says in a condition
abbrev pub keyword_of : List ℕ → Keyword
keyword_of word =
    if bytes_eq word (codes "not") then Not
    else (if bytes_eq word (codes "then") then Then
    else (if bytes_eq word (codes "and") then Join And
    else (if bytes_eq word (codes "or") then Join Or
    else (if bytes_eq word (codes "xor") then Join Xor
    else (if bytes_eq word (codes "xnor") then Join Xnor
    else Other)))))

abbrev pub same_truth : Bool → Bool → Bool
same_truth true b = b
same_truth false b = not b

abbrev pub combined : Operator → Bool → Bool → Bool
combined And a b = a && b
combined Or a b = a || b
combined Xor a b = not (same_truth a b)
combined Xnor a b = same_truth a b

abbrev pub is_operator : Operator → Operator → Bool
is_operator And And = true
is_operator Or Or = true
is_operator Xor Xor = true
is_operator Xnor Xnor = true
is_operator a b = false

-- the value of a chain with one relation more
abbrev pub joined : Option Chain → Bool → Bool
joined None value = value
joined (Some chain) value = combined chain.operator chain.so_far value

-- the chain may go on with an operator: it has no other
abbrev pub goes_on : Option Chain → Operator → Bool
goes_on None operator = true
goes_on (Some chain) operator = is_operator chain.operator operator

-- ---- Conditions: relations, joined by one and the same operator. A relation is an identifier, a relator and a text, or a condition in
-- brackets, or `not` and a condition in brackets. A reading of some pieces is the value of what they begin with, and the pieces after it.

pub data Reading : Type 0 where
  formless : Reading
  reads : Bool → List Piece → Reading

abbrev pub close_after : Bool → Bool → List Piece → Reading
close_after negated value [] = formless
close_after negated value (Closing ∷ rest) = reads (if negated then not value else value) rest
close_after negated value (p ∷ rest) = formless

abbrev pub closed : Bool → Reading → Reading
closed negated formless = formless
closed negated (reads value rest) = close_after negated value rest

abbrev pub against : List ℕ → Relator → List Piece → Reading
against text relator [] = formless
against text relator (Quoted right ∷ rest) = reads (relates relator text right) rest
against text relator (p ∷ rest) = formless

abbrev pub compared : List ℕ → List Piece → Reading
compared text [] = formless
compared text (Compare relator ∷ rest) = against text relator rest
compared text (p ∷ rest) = formless

-- brackets, where `inside` reads the condition in them
abbrev pub bracketed : (List Piece → Reading) → List Piece → Reading
bracketed inside [] = formless
bracketed inside (Opening ∷ rest) = closed true (inside rest)
bracketed inside (p ∷ rest) = formless

abbrev pub relation_of_word : List ℕ → (List Piece → Reading) → List ℕ → List Piece → Keyword → Reading
relation_of_word tool inside word rest Not = bracketed inside rest
relation_of_word tool inside word rest keyword = if is_identifier word then compared (text_of tool (known_of word)) rest else formless

abbrev pub relation : List ℕ → (List Piece → Reading) → List Piece → Reading
relation tool inside [] = formless
relation tool inside (Opening ∷ rest) = closed false (inside rest)
relation tool inside (Word word ∷ rest) = relation_of_word tool inside word rest (keyword_of word)
relation tool inside (p ∷ rest) = formless

-- what comes after a relation: more of its chain, where `next` reads that, or something else
abbrev pub more_of : (Option Chain → List Piece → Reading) → Option Chain → Bool → List ℕ → List Piece → Keyword → Reading
more_of next chain value word rest (Join operator) =
    if goes_on chain operator then next (Some (record { operator = operator; so_far = value })) rest else formless
more_of next chain value word rest keyword = reads value (Word word ∷ rest)

abbrev pub chain_after : (Option Chain → List Piece → Reading) → Option Chain → Bool → List Piece → Reading
chain_after next chain value [] = reads value []
chain_after next chain value (Word word ∷ rest) = more_of next chain value word rest (keyword_of word)
chain_after next chain value (p ∷ rest) = reads value (p ∷ rest)

abbrev pub after_relation : (Option Chain → List Piece → Reading) → Option Chain → Reading → Reading
after_relation next chain formless = formless
after_relation next chain (reads value rest) = chain_after next chain (joined chain value) rest

-- the condition that some pieces begin with, or what is to come of one whose chain so far is known, in so many steps at most
abbrev pub condition : List ℕ → ℕ → Option Chain → List Piece → Reading
condition tool zero chain ps = formless
condition tool (suc n) chain ps = after_relation (condition tool n) chain (relation tool (condition tool n None) ps)

abbrev pub then_alone : Bool → Keyword → List Piece → Option Bool
then_alone value Then [] = Some value
then_alone value keyword rest = None

abbrev pub before_then : Bool → List Piece → Option Bool
before_then value [] = None
before_then value (Word word ∷ rest) = then_alone value (keyword_of word) rest
before_then value (p ∷ rest) = None

abbrev pub whole : Reading → Option Bool
whole formless = None
whole (reads value rest) = before_then value rest

-- the value of a condition with `then` behind it and nothing else. Each step takes a piece at least
abbrev pub condition_of : List ℕ → List Piece → Option Bool
condition_of tool ps = whole (condition tool (length ps) None ps)
