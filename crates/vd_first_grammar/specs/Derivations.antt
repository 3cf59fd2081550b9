-- The grammar of the first language, for both revisions, as derivations: trees whose leaves are tokens. A record or a
-- constructor is a production; a leaf that may be any token is pinned by what `Is..` says of the tree.
-- (IEEE 1076: design file, entity declaration, architecture body, process statement, expression.)
--
--   file       = library ieee ; use ieee . std_logic_1164 . all ;
--                entity NAME is port ( port { ; port } ) ; end entity closing ;
--                architecture NAME of NAME is begin { process } end architecture closing ;
--   port       = NAME { , NAME } : ( in | out ) std_ulogic
--   process    = process ( sensitivity ) is begin NAME <= expression ; end process ;
--   expression = factor { and factor }
--   factor     = [ not ] primary
--   primary    = NAME | ( expression )
--
-- In 2019 a sensitivity is the word `all`, and the closing name and the `is` of a process are absent. In 1993 a
-- sensitivity is a list of names, and a closing name or that `is` may stand there or not.
use Rattle.std.specs.Prelude.{ℕ, List, [], ◌∷◌, ◌++◌, map, codes, Option, Some, None, ◌⊎◌}
use Rattle.std.specs.List.{flat_map, AllByRecursion}
use Rattle.vd_trees.specs.declared.revision.Revision.{Revision}
use Rattle.vd_trees.specs.declared.revision.Revision.TheVariants.{V2019, V1993}
use Rattle.vd_first_lex.specs.declared.tokens.Token.{Token}
use Rattle.vd_first_lex.specs.declared.tokens.TheConstants.{ALL, AND, ARCHITECTURE, BEGIN, END, ENTITY, IN, IS, LIBRARY, NOT, OF, OUT, PORT, PROCESS, USE, OPENING, CLOSING, COMMA, POINT, COLON, SEMICOLON, ARROW}
use Rattle.vd_first_grammar.specs.Symbols.{Symbol, word, mark, named, ending, IsName, Is, Spell}

-- ---- expressions

pub data Expression : Type 0 where
  name : (t : Token) → Expression
  brackets : (opening : Token) → (inner : Expression) → (closing : Token) → Expression
  inverted : (sign : Token) → (operand : Expression) → Expression
  conjoined : (left : Expression) → (sign : Token) → (right : Expression) → Expression

-- which of the three productions a tree is of
pub data Level : Type 0 where
  primary : Level
  factor : Level
  whole : Level

abbrev pub IsExpression : Level → Expression → Type 0
IsExpression l (name t) = IsName t
IsExpression l (brackets o e c) = Is (mark OPENING) o × IsExpression whole e × Is (mark CLOSING) c
IsExpression primary (inverted w e) = ⊥
IsExpression factor (inverted w e) = Is (word NOT) w × IsExpression primary e
IsExpression whole (inverted w e) = Is (word NOT) w × IsExpression primary e
IsExpression primary (conjoined e w f) = ⊥
IsExpression factor (conjoined e w f) = ⊥
IsExpression whole (conjoined e w f) = IsExpression whole e × Is (word AND) w × IsExpression factor f

abbrev pub expression_tokens : Expression → List Token
expression_tokens (name t) = t ∷ []
expression_tokens (brackets o e c) = o ∷ expression_tokens e ++ c ∷ []
expression_tokens (inverted w e) = w ∷ expression_tokens e
expression_tokens (conjoined e w f) = expression_tokens e ++ w ∷ expression_tokens f

-- ---- lists of names: a first one, and the others, each behind its comma

pub record Further (X : Type 0) : Type 0 where
  pub sign : Token
  pub item : X

pub record Names : Type 0 where
  pub first : Token
  pub others : List (Further Token)

abbrev pub IsFurtherName : Further Token → Type 0
IsFurtherName f = Is (mark COMMA) f.sign × IsName f.item

abbrev pub AreNames : Names → Type 0
AreNames ns = IsName ns.first × AllByRecursion IsFurtherName ns.others

abbrev pub further_name_tokens : Further Token → List Token
further_name_tokens f = f.sign ∷ f.item ∷ []

abbrev pub names_tokens : Names → List Token
names_tokens ns = ns.first ∷ flat_map further_name_tokens ns.others

-- the names themselves
abbrev pub names_of : Names → List Token
names_of ns = ns.first ∷ map (λ f. f.item) ns.others

-- ---- ports

pub record Port : Type 0 where
  pub names : Names
  pub colon : Token
  pub mode : Token
  pub subtype : Token

abbrev pub std_ulogic : List ℕ
std_ulogic = codes "std_ulogic"

abbrev pub IsMode : Token → Type 0
IsMode t = Is (word IN) t ⊎ Is (word OUT) t

abbrev pub IsPort : Port → Type 0
IsPort p = AreNames p.names × Is (mark COLON) p.colon × IsMode p.mode × Is (named std_ulogic) p.subtype

abbrev pub port_tokens : Port → List Token
port_tokens p = names_tokens p.names ++ p.colon ∷ p.mode ∷ p.subtype ∷ []

abbrev pub IsFurtherPort : Further Port → Type 0
IsFurtherPort f = Is (mark SEMICOLON) f.sign × IsPort f.item

abbrev pub further_port_tokens : Further Port → List Token
further_port_tokens f = f.sign ∷ port_tokens f.item

-- ---- processes

pub data Sensitivity : Type 0 where
  every : (t : Token) → Sensitivity
  listed : (names : Names) → Sensitivity

abbrev pub IsSensitivity : Revision → Sensitivity → Type 0
IsSensitivity V2019 (every t) = Is (word ALL) t
IsSensitivity V2019 (listed ns) = ⊥
IsSensitivity V1993 (every t) = ⊥
IsSensitivity V1993 (listed ns) = AreNames ns

abbrev pub sensitivity_tokens : Sensitivity → List Token
sensitivity_tokens (every t) = t ∷ []
sensitivity_tokens (listed ns) = names_tokens ns

abbrev pub optional_tokens : Option Token → List Token
optional_tokens None = []
optional_tokens (Some t) = t ∷ []

-- a token that only revision 1993 may have here
abbrev pub IsOptional : Revision → (Token → Type 0) → Option Token → Type 0
IsOptional r P None = Unit {0}
IsOptional V2019 P (Some t) = ⊥
IsOptional V1993 P (Some t) = P t

pub record Process : Type 0 where
  pub head : List Token
  pub sensitivity : Sensitivity
  pub closing : Token
  pub is_word : Option Token
  pub begin_word : Token
  pub target : Token
  pub arrow : Token
  pub value : Expression
  pub foot : List Token

abbrev pub IsProcess : Revision → Process → Type 0
IsProcess r p =
    Spell (word PROCESS ∷ mark OPENING ∷ []) p.head
    × IsSensitivity r p.sensitivity
    × Is (mark CLOSING) p.closing
    × IsOptional r (Is (word IS)) p.is_word
    × Is (word BEGIN) p.begin_word
    × IsName p.target
    × Is (mark ARROW) p.arrow
    × IsExpression whole p.value
    × Spell (mark SEMICOLON ∷ word END ∷ word PROCESS ∷ mark SEMICOLON ∷ []) p.foot

abbrev pub process_tokens : Process → List Token
process_tokens p =
    p.head
    ++ (sensitivity_tokens p.sensitivity
    ++ (p.closing
    ∷ (optional_tokens p.is_word
    ++ (p.begin_word ∷ p.target ∷ p.arrow ∷ (expression_tokens p.value ++ p.foot)))))

-- ---- the file

abbrev pub ieee : List ℕ
ieee = codes "ieee"

abbrev pub std_logic_1164 : List ℕ
std_logic_1164 = codes "std_logic_1164"

-- library ieee ; use ieee . std_logic_1164 . all ; entity
abbrev pub head_symbols : List Symbol
head_symbols =
    word LIBRARY ∷ named ieee ∷ mark SEMICOLON
    ∷ word USE ∷ named ieee ∷ mark POINT ∷ named std_logic_1164 ∷ mark POINT ∷ word ALL ∷ mark SEMICOLON
    ∷ word ENTITY ∷ []

-- is port (
abbrev pub ports_head_symbols : List Symbol
ports_head_symbols = word IS ∷ word PORT ∷ mark OPENING ∷ []

-- ) ; end entity
abbrev pub ports_foot_symbols : List Symbol
ports_foot_symbols = mark CLOSING ∷ mark SEMICOLON ∷ word END ∷ word ENTITY ∷ []

-- ; architecture
abbrev pub architecture_symbols : List Symbol
architecture_symbols = mark SEMICOLON ∷ word ARCHITECTURE ∷ []

-- is begin
abbrev pub body_symbols : List Symbol
body_symbols = word IS ∷ word BEGIN ∷ []

-- end architecture
abbrev pub foot_symbols : List Symbol
foot_symbols = word END ∷ word ARCHITECTURE ∷ []

-- ; and the end of the file
abbrev pub last_symbols : List Symbol
last_symbols = mark SEMICOLON ∷ ending ∷ []

pub record File : Type 0 where
  pub head : List Token
  pub entity : Token
  pub ports_head : List Token
  pub first_port : Port
  pub other_ports : List (Further Port)
  pub ports_foot : List Token
  pub entity_closing : Option Token
  pub architecture_head : List Token
  pub architecture : Token
  pub of_word : Token
  pub of_entity : Token
  pub body_head : List Token
  pub processes : List Process
  pub foot : List Token
  pub architecture_closing : Option Token
  pub last : List Token

pub record IsFile (r : Revision) (f : File) : Type 0 where
  pub head : Spell head_symbols f.head
  pub entity : IsName f.entity
  pub ports_head : Spell ports_head_symbols f.ports_head
  pub first_port : IsPort f.first_port
  pub other_ports : AllByRecursion IsFurtherPort f.other_ports
  pub ports_foot : Spell ports_foot_symbols f.ports_foot
  pub entity_closing : IsOptional r IsName f.entity_closing
  pub architecture_head : Spell architecture_symbols f.architecture_head
  pub architecture : IsName f.architecture
  pub of_word : Is (word OF) f.of_word
  pub of_entity : IsName f.of_entity
  pub body_head : Spell body_symbols f.body_head
  pub processes : AllByRecursion (IsProcess r) f.processes
  pub foot : Spell foot_symbols f.foot
  pub architecture_closing : IsOptional r IsName f.architecture_closing
  pub last : Spell last_symbols f.last

abbrev pub ports_of : File → List Port
ports_of f = f.first_port ∷ map (λ p. p.item) f.other_ports

-- the tokens of a derivation, in order
abbrev pub file_tokens : File → List Token
file_tokens f =
    f.head
    ++ (f.entity
    ∷ (f.ports_head
    ++ (port_tokens f.first_port
    ++ (flat_map further_port_tokens f.other_ports
    ++ (f.ports_foot
    ++ (optional_tokens f.entity_closing
    ++ (f.architecture_head
    ++ (f.architecture ∷ f.of_word ∷ f.of_entity
    ∷ (f.body_head
    ++ (flat_map process_tokens f.processes
    ++ (f.foot
    ++ (optional_tokens f.architecture_closing
    ++ f.last))))))))))))
