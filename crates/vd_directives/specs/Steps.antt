-- A condition read piece by piece, with the brackets that are open round it. Conditions are defined apart from this, in Conditions.
use Rattle.std.specs.Prelude.{ℕ, Bool, true, false, not, List, [], ◌∷◌, Option, Some, None, if◌then◌else◌}
use Rattle.vd_directives.specs.declared.words.Keyword.{Keyword}
use Rattle.vd_directives.specs.declared.words.Keyword.TheVariants.{Not, Then, Join}
use Rattle.vd_directives.specs.declared.words.Known.{Known}
use Rattle.vd_directives.specs.declared.conditions.Chain.{Chain}
use Rattle.vd_directives.specs.declared.conditions.Bracket.{Bracket}
use Rattle.vd_directives.specs.declared.conditions.Reader.{Reader}
use Rattle.vd_directives.specs.declared.conditions.Awaited as awaits
use Rattle.vd_directives.specs.declared.conditions.Awaited.TheVariants.{Relation, Behind, Relator, Text, More, End}
use Rattle.vd_directives.specs.declared.pieces.Relator as relators
use Rattle.vd_directives.specs.declared.pieces.Piece.{Piece}
use Rattle.vd_directives.specs.declared.pieces.Piece.TheVariants.{Word, Quoted, Compare, Opening, Closing}
use Rattle.vd_directives.specs.Stacks.{is_nil}
use Rattle.vd_directives.specs.Conditions.{is_identifier, known_of, text_of, relates, keyword_of, joined, goes_on}

abbrev pub reader : awaits.Awaited → Option Chain → List Bracket → Reader
reader awaited chain open_ones = record { awaited = awaited; chain = chain; «open» = open_ones }

abbrev pub opened : Bool → Option Chain → List Bracket → Reader
opened negated chain outer = reader Relation None (record { negated = negated; outside = chain } ∷ outer)

abbrev pub at_word : List ℕ → Option Chain → List Bracket → Keyword → Option Reader
at_word word chain outer Not = Some (reader Behind chain outer)
at_word word chain outer keyword = if is_identifier word then Some (reader (Relator (known_of word)) chain outer) else None

abbrev pub at_relation : Piece → Option Chain → List Bracket → Option Reader
at_relation Opening chain outer = Some (opened false chain outer)
at_relation (Word word) chain outer = at_word word chain outer (keyword_of word)
at_relation p chain outer = None

abbrev pub at_bracket : Piece → Option Chain → List Bracket → Option Reader
at_bracket Opening chain outer = Some (opened true chain outer)
at_bracket p chain outer = None

abbrev pub at_relator : Known → Piece → Option Chain → List Bracket → Option Reader
at_relator known (Compare relator) chain outer = Some (reader (Text known relator) chain outer)
at_relator known p chain outer = None

abbrev pub at_text : List ℕ → Known → relators.Relator → Piece → Option Chain → List Bracket → Option Reader
at_text tool known relator (Quoted right) chain outer = Some (reader (More (joined chain (relates relator (text_of tool known) right))) chain outer)
at_text tool known relator p chain outer = None

abbrev pub at_keyword : Bool → Option Chain → List Bracket → Keyword → Option Reader
at_keyword value chain outer (Join operator) =
    if goes_on chain operator then Some (reader Relation (Some (record { operator = operator; so_far = value })) outer) else None
at_keyword value chain outer Then = if is_nil outer then Some (reader (End value) chain outer) else None
at_keyword value chain outer keyword = None

abbrev pub at_closing : Bool → List Bracket → Option Reader
at_closing value [] = None
at_closing value (bracket ∷ outer) = Some (reader (More (joined bracket.outside (if bracket.negated then not value else value))) bracket.outside outer)

abbrev pub at_more : Bool → Piece → Option Chain → List Bracket → Option Reader
at_more value (Word word) chain outer = at_keyword value chain outer (keyword_of word)
at_more value Closing chain outer = at_closing value outer
at_more value p chain outer = None

abbrev pub at_awaited : List ℕ → awaits.Awaited → Piece → Option Chain → List Bracket → Option Reader
at_awaited tool Relation p chain outer = at_relation p chain outer
at_awaited tool Behind p chain outer = at_bracket p chain outer
at_awaited tool (Relator known) p chain outer = at_relator known p chain outer
at_awaited tool (Text known relator) p chain outer = at_text tool known relator p chain outer
at_awaited tool (More value) p chain outer = at_more value p chain outer
at_awaited tool (End value) p chain outer = None

-- a piece is read, if it may stand there
abbrev pub stepped : List ℕ → Reader → Piece → Option Reader
stepped tool r p = at_awaited tool r.awaited p r.chain r.«open»

abbrev pub answered : awaits.Awaited → Option Bool
answered (End value) = Some value
answered awaited = None

abbrev pub run : List ℕ → Option Reader → List Piece → Option Bool
run tool None ps = None
run tool (Some r) [] = answered r.awaited
run tool (Some r) (p ∷ ps) = run tool (stepped tool r p) ps
