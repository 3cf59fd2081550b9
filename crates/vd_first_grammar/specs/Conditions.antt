-- What else the first language asks of a file's names, and how deep its statements and expressions stand.
use Rattle.std.specs.Prelude.{◌≡◌, ◌+◌, ◌⊎◌, ℕ, List, [], ◌∷◌, ◌++◌, map, codes, Option, Some, None, Contains}
use Rattle.std.specs.List.{flat_map, AllByRecursion}
use Rattle.vd_first_lex.specs.declared.tokens.Token.{Token}
use Rattle.vd_first_lex.specs.declared.tokens.TheConstants.{IN, OUT}
use Rattle.vd_first_grammar.specs.Symbols.{word, Is}
use Rattle.vd_first_grammar.specs.Derivations.{Expression, name, brackets, inverted, conjoined, names_of, Port, Sensitivity, every, listed, Process, File, ports_of, port_tokens, further_port_tokens, sensitivity_tokens, optional_tokens, ieee, std_logic_1164, std_ulogic}

-- ---- names

abbrev pub texts_of : List Token → List (List ℕ)
texts_of ts = map (λ t. t.text) ts

abbrev pub port_names : List Port → List Token
port_names ps = flat_map (λ p. names_of p.names) ps

-- every name that the file declares, in order
abbrev pub declared : File → List Token
declared f = f.entity ∷ port_names (ports_of f) ++ f.architecture ∷ []

-- the name stands with this mode in a list of ports
abbrev pub IsPortOf : ℕ → List Port → List ℕ → Type 0
IsPortOf mode [] text = ⊥
IsPortOf mode (p ∷ ps) text = (Is (word mode) p.mode × Contains (texts_of (names_of p.names)) text) ⊎ IsPortOf mode ps text

-- the names of an expression, from the left
abbrev pub expression_names : Expression → List Token
expression_names (name t) = t ∷ []
expression_names (brackets o e c) = expression_names e
expression_names (inverted w e) = expression_names e
expression_names (conjoined e w f) = expression_names e ++ expression_names f

abbrev pub sensitivity_names : Sensitivity → List Token
sensitivity_names (every t) = []
sensitivity_names (listed ns) = names_of ns

-- the names that a process reads, from the left: those of its list and those of its value
abbrev pub read_names : Process → List Token
read_names p = sensitivity_names p.sensitivity ++ expression_names p.value

-- the names that stand for an object, in the order of the text
abbrev pub process_names : Process → List Token
process_names p = sensitivity_names p.sensitivity ++ p.target ∷ expression_names p.value

-- names of libraries and of what they are seen to declare
abbrev pub taken_names : List (List ℕ)
taken_names = codes "work" ∷ codes "std" ∷ ieee ∷ std_logic_1164 ∷ std_ulogic ∷ []

-- each text differs from those before it
abbrev pub AreNew : List (List ℕ) → List (List ℕ) → Type 0
AreNew before [] = Unit {0}
AreNew before (t ∷ ts) = (Contains before t → ⊥) × AreNew (before ++ t ∷ []) ts

-- a closing name is that of its unit
abbrev pub Repeats : List ℕ → Option Token → Type 0
Repeats text None = Unit {0}
Repeats text (Some t) = t.text ≡ text

-- no `out` port is read, and no `in` port is a target
pub record KeepsModes (ps : List Port) (p : Process) : Type 0 where
  pub reads : AllByRecursion (λ t. IsPortOf OUT ps t.text → ⊥) (read_names p)
  pub target : IsPortOf IN ps p.target.text → ⊥

pub record MeetsConditions (f : File) : Type 0 where
  -- no name is declared twice, or is taken
  pub declared : AreNew taken_names (texts_of (declared f))
  -- the architecture is one of the entity
  pub of_entity : f.of_entity.text ≡ f.entity.text
  pub entity_closing : Repeats f.entity.text f.entity_closing
  pub modes : AllByRecursion (KeepsModes (ports_of f)) f.processes
  pub architecture_closing : Repeats f.architecture.text f.architecture_closing

-- ---- depth: a process, its assignment and each expression that is no operand count one each

-- for each token, how many of these stand around it, the one that begins with it counting
abbrev pub expression_depths : ℕ → Expression → List ℕ
expression_depths d (name t) = d ∷ []
expression_depths d (brackets o e c) = d ∷ expression_depths (d + 1) e ++ d ∷ []
expression_depths d (inverted w e) = d ∷ expression_depths d e
expression_depths d (conjoined e w f) = expression_depths d e ++ d ∷ expression_depths d f

abbrev pub all_at : ℕ → List Token → List ℕ
all_at d ts = map (λ t. d) ts

abbrev pub process_depths : Process → List ℕ
process_depths p =
    all_at 1 p.head
    ++ (all_at 1 (sensitivity_tokens p.sensitivity)
    ++ (1
    ∷ (all_at 1 (optional_tokens p.is_word)
    ++ (1 ∷ 2 ∷ 2 ∷ (expression_depths 3 p.value ++ (2 ∷ 1 ∷ 1 ∷ 1 ∷ []))))))

abbrev pub file_depths : File → List ℕ
file_depths f =
    all_at 0 f.head
    ++ (0
    ∷ (all_at 0 f.ports_head
    ++ (all_at 0 (port_tokens f.first_port)
    ++ (all_at 0 (flat_map further_port_tokens f.other_ports)
    ++ (all_at 0 f.ports_foot
    ++ (all_at 0 (optional_tokens f.entity_closing)
    ++ (all_at 0 f.architecture_head
    ++ (0 ∷ 0 ∷ 0
    ∷ (all_at 0 f.body_head
    ++ (flat_map process_depths f.processes
    ++ (all_at 0 f.foot
    ++ (all_at 0 (optional_tokens f.architecture_closing)
    ++ all_at 0 f.last))))))))))))
