-- Reading tokens from the left: the tree that is read, or the token at which reading stops. What each reader takes is
-- proved to be what the grammar derives, and where it stops to be the first hopeless token or the first one too deep.
-- Where the revisions differ, a reader is of one of them.
use Rattle.std.specs.Prelude.{ℕ, zero, suc, ◌-◌, Bool, true, false, ◌&&◌, ◌||◌, not, ◌==◌, List, [], ◌∷◌, ◌++◌, length, if◌then◌else◌, Option, Some, None}
use Rattle.std.specs.List.{list_any}
use Rattle.std.specs.Str.{bytes_eq}
use Rattle.vd_bytes.specs.declared.places.Place.{Place}
use Rattle.vd_forest.specs.Forest.{Forest, nothing, turned, with_next}
use Rattle.vd_forest.specs.Texts.{with_text}
use Rattle.vd_first_trees.specs.declared.form.Form.{Form}
use Rattle.vd_first_trees.specs.declared.form.Form.TheVariants as form
use Rattle.vd_trees.specs.declared.revision.Revision.{Revision}
use Rattle.vd_trees.specs.declared.revision.Revision.TheVariants.{V2019, V1993}
use Rattle.vd_first_lex.specs.declared.tokens.Kind.{Kind}
use Rattle.vd_first_lex.specs.declared.tokens.Kind.TheVariants.{Name, Word, Mark, End}
use Rattle.vd_first_lex.specs.declared.tokens.Token.{Token}
use Rattle.vd_first_lex.specs.declared.tokens.TheConstants.{ALL, AND, BEGIN, IN, IS, NOT, OF, OUT, PROCESS, OPENING, CLOSING, COMMA, COLON, SEMICOLON, ARROW, END}
use Rattle.vd_first_grammar.specs.Symbols.{Symbol, word, mark, named, ending}
use Rattle.vd_first_grammar.specs.Derivations.{std_ulogic, head_symbols, ports_head_symbols, ports_foot_symbols, architecture_symbols, body_symbols, foot_symbols, last_symbols}
use Rattle.vd_first_grammar.specs.Conditions.{taken_names}
use Rattle.vd_first_grammar.specs.Refusals.{nesting_limit, place_of_token}
use Rattle.vd_first_grammar.specs.Shapes.{node, identifier, optional_identifier, subtype_shape, if_out, context_shape}

-- ---- tests of a token

abbrev pub is_word : ℕ → Kind → Bool
is_word n (Word k) = k == n
is_word n _ = false

abbrev pub is_mark : ℕ → Kind → Bool
is_mark n (Mark k) = k == n
is_mark n _ = false

abbrev pub is_named : Kind → Bool
is_named Name = true
is_named _ = false

abbrev pub is_end : Kind → Bool
is_end End = true
is_end _ = false

abbrev pub is : Symbol → Token → Bool
is (word n) t = is_word n t.kind
is (mark n) t = is_mark n t.kind
is (named text) t = is_named t.kind && bytes_eq t.text text
is ending t = is_end t.kind

abbrev pub is_name : Token → Bool
is_name t = is_named t.kind

abbrev pub is_mode : Token → Bool
is_mode t = is (word IN) t || is (word OUT) t

abbrev pub among : List (List ℕ) → List ℕ → Bool
among texts text = list_any (bytes_eq text) texts

-- a name that is not among the texts
abbrev pub is_name_outside : List (List ℕ) → Token → Bool
is_name_outside texts t = is_name t && not (among texts t.text)

-- a name that is this one
abbrev pub is_same_name : List ℕ → Token → Bool
is_same_name text t = is_name t && bytes_eq t.text text

-- ---- steps

pub data Outcome (A : Type 0) : Type 0 where
  -- a value, and the tokens behind what was read
  got : (read : A × List Token) → Outcome A
  -- no text goes on with the first of these tokens
  stuck : (rest : List Token) → Outcome A
  -- the first of these tokens is too deep
  deep : (rest : List Token) → Outcome A

infixl 10 ◌>>=◌
abbrev pub ◌>>=◌ : {A B : Type 0} → Outcome A → (A × List Token → Outcome B) → Outcome B
(got x) >>= f = f x
(stuck rest) >>= f = stuck rest
(deep rest) >>= f = deep rest

-- a token that passes a test
unfoldable pub token_at : (Token → Bool) → List Token → Outcome Token
token_at test [] = stuck []
token_at test (t ∷ ts) = if test t then got (t, ts) else stuck (t ∷ ts)

-- these symbols, one by one
unfoldable pub spelled_at : List Symbol → List Token → Outcome (List Token)
spelled_at [] ts = got ([], ts)
spelled_at (s ∷ ss) ts = do
  first ← token_at (is s) ts
  others ← spelled_at ss first.1
  got (first.0 ∷ others.0, others.1)

-- whether the first token passes a test
abbrev pub begins : (Token → Bool) → List Token → Bool
begins test [] = false
begins test (t ∷ ts) = test t

-- a token that only revision 1993 may have here, where one fits: it has to pass a test
unfoldable pub optional_at : Revision → (Token → Bool) → (Token → Bool) → List Token → Outcome (Option Token)
optional_at V2019 fits test ts = got (None, ts)
optional_at V1993 fits test ts = if begins fits ts then (token_at test ts >>= λ x. got (Some x.0, x.1)) else got (None, ts)

-- a part again and again as long as a token begins one, at most as many times as the number says
unfoldable pub repeated : {A : Type 0} → (Token → Bool) → (A → List Token → Outcome A) → ℕ → A → List Token → Outcome A
repeated test part zero a ts = got (a, ts)
repeated test part (suc n) a ts = if begins test ts then (part a ts >>= λ x. repeated test part n x.0 x.1) else got (a, ts)

-- a part again and again as long as a token begins one
unfoldable pub repeated_at : {A : Type 0} → (Token → Bool) → (A → List Token → Outcome A) → A → List Token → Outcome A
repeated_at test part a ts = repeated test part (length ts) a ts

-- ---- ports

-- the names of a port so far: their identifiers, the last one first, all names that are taken, and the port's own
pub record NamesRead : Type 0 where
  pub made : Forest Form
  pub taken : List (List ℕ)
  pub texts : List (List ℕ)

abbrev pub with_name : NamesRead → Token → NamesRead
with_name s t = record { made = identifier t s.made; taken = with_text s.taken t.text; texts = s.texts ++ t.text ∷ [] }

unfoldable pub further_name_at : NamesRead → List Token → Outcome NamesRead
further_name_at s ts = do
  comma ← token_at (is (mark COMMA)) ts
  name ← token_at (is_name_outside s.taken) comma.1
  got (with_name s name.0, name.1)

unfoldable pub names_at : List (List ℕ) → List Token → Outcome NamesRead
names_at taken ts = do
  name ← token_at (is_name_outside taken) ts
  repeated_at (is (mark COMMA)) further_name_at (with_name (record { made = nothing; taken = taken; texts = [] }) name.0) name.1

abbrev pub with_texts : List (List ℕ) → List (List ℕ) → List (List ℕ)
with_texts known [] = known
with_texts known (t ∷ ts) = with_texts (with_text known t) ts

-- all names that are taken, and those of ports by their modes. Names of `out` ports are kept only where `guarded`: without
-- them reading takes what the grammar alone derives
pub record Known : Type 0 where
  pub taken : List (List ℕ)
  pub ins : List (List ℕ)
  pub outs : List (List ℕ)
  pub guarded : Bool

abbrev pub no_names : Bool → Known
no_names guarded = record { taken = taken_names; ins = []; outs = []; guarded = guarded }

abbrev pub take_name : List ℕ → Known → Known
take_name text k = record k { taken = with_text k.taken text }

-- with the names of a port of this mode
abbrev pub with_mode : Known → List (List ℕ) → Token → Known
with_mode k texts m = record {
  taken = k.taken;
  ins = if is (word OUT) m then k.ins else with_texts k.ins texts;
  outs = if is (word OUT) m && k.guarded then with_texts k.outs texts else k.outs;
  guarded = k.guarded;
}

abbrev pub with_port : Known → NamesRead → Token → Known
with_port k ns m = with_mode (record k { taken = ns.taken }) ns.texts m

-- the ports so far, the last one first
pub record PortsRead : Type 0 where
  pub made : Forest Form
  pub known : Known

abbrev pub port_tree : Place → Forest Form → Token → Token → Forest Form → Forest Form
port_tree place names m subtype next =
    node form.PortDeclaration place
    (node form.IdentifierList place (turned names nothing) (node (if_out m.kind) m.place nothing (subtype_shape subtype nothing)))
    next

unfoldable pub port_at : PortsRead → List Token → Outcome PortsRead
port_at s ts = do
  names ← names_at s.known.taken ts
  colon ← token_at (is (mark COLON)) names.1
  m ← token_at is_mode colon.1
  subtype ← token_at (is (named std_ulogic)) m.1
  got (record { made = port_tree (place_of_token ts 0) names.0.made m.0 subtype.0 s.made; known = with_port s.known names.0 m.0 }, subtype.1)

unfoldable pub further_port_at : PortsRead → List Token → Outcome PortsRead
further_port_at s ts = do
  sign ← token_at (is (mark SEMICOLON)) ts
  port_at s sign.1

unfoldable pub ports_at : Known → List Token → Outcome PortsRead
ports_at known ts = do
  first ← port_at (record { made = nothing; known = known }) ts
  repeated_at (is (mark SEMICOLON)) further_port_at first.0 first.1

-- ---- expressions. A reader of what stands in brackets is passed along

abbrev pub name_before : Token → Forest Form → Forest Form
name_before t next = node form.Name t.place (identifier t nothing) next

abbrev pub name_tree : Token → Forest Form
name_tree t = name_before t nothing

abbrev pub begins_expression : Token → Bool
begins_expression t = is_name t || (is (mark OPENING) t || is (word NOT) t)

unfoldable pub brackets_at : (List Token → Outcome (Forest Form)) → List Token → Outcome (Forest Form)
brackets_at inner ts = do
  opening ← token_at (is (mark OPENING)) ts
  value ← inner opening.1
  closing ← token_at (is (mark CLOSING)) value.1
  got (value.0, closing.1)

unfoldable pub name_at : List (List ℕ) → List Token → Outcome (Forest Form)
name_at outs ts = do
  t ← token_at (is_name_outside outs) ts
  got (name_tree t.0, t.1)

unfoldable pub primary_at : List (List ℕ) → (List Token → Outcome (Forest Form)) → List Token → Outcome (Forest Form)
primary_at outs inner ts = if begins is_name ts then name_at outs ts else brackets_at inner ts

unfoldable pub inverted_at : List (List ℕ) → (List Token → Outcome (Forest Form)) → List Token → Outcome (Forest Form)
inverted_at outs inner ts = do
  sign ← token_at (is (word NOT)) ts
  operand ← primary_at outs inner sign.1
  got (node form.Not sign.0.place operand.0 nothing, operand.1)

unfoldable pub factor_at : List (List ℕ) → (List Token → Outcome (Forest Form)) → List Token → Outcome (Forest Form)
factor_at outs inner ts = if begins (is (word NOT)) ts then inverted_at outs inner ts else primary_at outs inner ts

-- the right operand behind a left one that begins at the place
unfoldable pub conjoined_at : List (List ℕ) → (List Token → Outcome (Forest Form)) → Place → Forest Form → List Token → Outcome (Forest Form)
conjoined_at outs inner place left ts = do
  sign ← token_at (is (word AND)) ts
  right ← factor_at outs inner sign.1
  got (node form.And place (with_next left right.0) nothing, right.1)

unfoldable pub chain_at : List (List ℕ) → (List Token → Outcome (Forest Form)) → List Token → Outcome (Forest Form)
chain_at outs inner ts = do
  first ← factor_at outs inner ts
  repeated_at (is (word AND)) (conjoined_at outs inner (place_of_token ts 0)) first.0 first.1

-- an expression in which as many may stand in one another as the number says
unfoldable pub expression_at : List (List ℕ) → ℕ → List Token → Outcome (Forest Form)
expression_at outs zero ts = if begins begins_expression ts then deep ts else stuck ts
expression_at outs (suc n) ts = chain_at outs (expression_at outs n) ts

-- ---- processes

abbrev pub process_head : List Symbol
process_head = word PROCESS ∷ mark OPENING ∷ []

abbrev pub process_foot : List Symbol
process_foot = mark SEMICOLON ∷ word END ∷ word PROCESS ∷ mark SEMICOLON ∷ []

-- a further name of a sensitivity list
unfoldable pub further_listed_at : List (List ℕ) → Forest Form → List Token → Outcome (Forest Form)
further_listed_at outs made ts = do
  comma ← token_at (is (mark COMMA)) ts
  name ← token_at (is_name_outside outs) comma.1
  got (name_before name.0 made, name.1)

-- a sensitivity list: its names, the last one first
unfoldable pub listed_at : List (List ℕ) → List Token → Outcome (Forest Form)
listed_at outs ts = do
  name ← token_at (is_name_outside outs) ts
  repeated_at (is (mark COMMA)) (further_listed_at outs) (name_tree name.0) name.1

-- the word `all`, which has no names
unfoldable pub every_at : List Token → Outcome (Forest Form)
every_at ts = do
  all ← token_at (is (word ALL)) ts
  got (nothing, all.1)

-- what stands in the brackets of a process: names, the last one first, or none
unfoldable pub sensitivity_at : Revision → List (List ℕ) → List Token → Outcome (Forest Form)
sensitivity_at V2019 outs ts = every_at ts
sensitivity_at V1993 outs ts = listed_at outs ts

abbrev pub sensitivity_form : Revision → Form
sensitivity_form V2019 = form.All
sensitivity_form V1993 = form.SensitivityList

abbrev pub is_form : Option Token → Form
is_form None = form.Absent
is_form (Some t) = form.Is

-- what stands before a process's target: the place of the process, the place and the names of its sensitivity, the last
-- one first, and whether the word `is` stands there, with the place of that word or of the next one
pub record FrontRead : Type 0 where
  pub place : Place
  pub sensitivity : Place
  pub names : Forest Form
  pub word : Form
  pub word_place : Place

unfoldable pub front_at : Revision → List (List ℕ) → List Token → Outcome FrontRead
front_at r outs ts = do
  head ← spelled_at process_head ts
  names ← sensitivity_at r outs head.1
  closing ← token_at (is (mark CLOSING)) names.1
  is_word ← optional_at r (is (word IS)) (is (word IS)) closing.1
  begin_word ← token_at (is (word BEGIN)) is_word.1
  got (record { place = place_of_token ts 0; sensitivity = place_of_token head.1 0; names = names.0; word = is_form is_word.0; word_place = place_of_token closing.1 0 }, begin_word.1)

abbrev pub process_tree : Revision → FrontRead → Token → Forest Form → Forest Form → Forest Form
process_tree r front target value next =
    node form.ProcessStatement front.place
    (node (sensitivity_form r) front.sensitivity (turned front.names nothing)
    (node front.word front.word_place nothing
    (node form.SignalAssignment target.place (node form.Name target.place (identifier target nothing) value) nothing)))
    next

unfoldable pub process_at : Revision → Known → ℕ → Forest Form → List Token → Outcome (Forest Form)
process_at r known limit made ts = do
  front ← front_at r known.outs ts
  target ← token_at (is_name_outside known.ins) front.1
  arrow ← token_at (is (mark ARROW)) target.1
  value ← expression_at known.outs limit arrow.1
  foot ← spelled_at process_foot value.1
  got (process_tree r front.0 target.0 value.0 made, foot.1)

-- ---- the file

abbrev pub entity_tree : List Token → Token → List Token → Forest Form → List Token → Option Token → Forest Form
entity_tree head entity ports_head ports foot closing =
    node form.EntityDeclaration (place_of_token head 10)
    (identifier entity
    (node form.PortClause (place_of_token ports_head 1) (turned ports nothing)
    (node form.Closing (place_of_token foot 3) (optional_identifier closing) nothing)))
    nothing

abbrev pub architecture_tree : Place → Token → Token → Place → Forest Form → List Token → Option Token → Forest Form
architecture_tree place architecture of_entity body processes foot closing =
    node form.ArchitectureBody place
    (identifier architecture
    (identifier of_entity
    (node form.StatementPart body (turned processes nothing)
    (node form.Closing (place_of_token foot 1) (optional_identifier closing) nothing))))
    nothing

abbrev pub file_tree : List Token → Forest Form → Place → Forest Form → Forest Form
file_tree head entity place architecture =
    node form.DesignUnit (place_of_token head 0) (context_shape head entity)
    (node form.DesignUnit place (node form.ContextClause place nothing architecture) nothing)

-- an entity's tree, its name, and the names that are known behind it
pub record EntityRead : Type 0 where
  pub tree : Forest Form
  pub entity : Token
  pub known : Known

unfoldable pub entity_at : Revision → Known → List Token → List Token → Outcome EntityRead
entity_at r known head ts = do
  entity ← token_at (is_name_outside known.taken) ts
  ports_head ← spelled_at ports_head_symbols entity.1
  ports ← ports_at (take_name entity.0.text known) ports_head.1
  foot ← spelled_at ports_foot_symbols ports.1
  closing ← optional_at r is_name (is_same_name entity.0.text) foot.1
  got (record { tree = entity_tree head entity.0 ports_head.0 ports.0.made foot.0 closing.0; entity = entity.0; known = ports.0.known }, closing.1)

-- an architecture behind its name
unfoldable pub body_at : Revision → Place → Token → Token → Known → ℕ → List Token → Outcome (Forest Form)
body_at r place architecture entity known limit ts = do
  of_word ← token_at (is (word OF)) ts
  of_entity ← token_at (is_same_name entity.text) of_word.1
  body ← spelled_at body_symbols of_entity.1
  processes ← repeated_at (is (word PROCESS)) (process_at r known limit) nothing body.1
  foot ← spelled_at foot_symbols processes.1
  closing ← optional_at r is_name (is_same_name architecture.text) foot.1
  last ← spelled_at last_symbols closing.1
  got (architecture_tree place architecture of_entity.0 (place_of_token body.1 0) processes.0 foot.0 closing.0, last.1)

unfoldable pub architecture_at : Revision → Place → Token → Known → ℕ → List Token → Outcome (Forest Form)
architecture_at r place entity known limit ts = do
  architecture ← token_at (is_name_outside known.taken) ts
  body_at r place architecture.0 entity known limit architecture.1

-- how many expressions may stand in one another below a process and its assignment
abbrev pub expressions_limit : Revision → ℕ
expressions_limit r = nesting_limit r - 2

-- a file whose expressions may stand in one another as many times as the number says
unfoldable pub file_at : Revision → Bool → ℕ → List Token → Outcome (Forest Form)
file_at r guarded limit ts = do
  head ← spelled_at head_symbols ts
  e ← entity_at r (no_names guarded) head.0 head.1
  middle ← spelled_at architecture_symbols e.1
  a ← architecture_at r (place_of_token middle.0 1) e.0.entity e.0.known limit middle.1
  got (file_tree head.0 e.0.tree (place_of_token middle.0 1) a.0, a.1)
