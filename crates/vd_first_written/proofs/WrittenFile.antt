-- The derivation that is written for a 2019 file. Its tokens have no places; brackets stand where the printer puts
-- them, each port has a declaration of its own, a process lists what it reads, and each unit's name stands at its end.
use Rattle.std.specs.Prelude.{ℕ, List, [], ◌∷◌, ◌++◌, map, Some, if◌then◌else◌}
use Rattle.vd_forest.specs.Texts.{with_text}
use Rattle.vd_first_lex.specs.declared.tokens.Kind.TheVariants.{Word, Mark, End}
use Rattle.vd_first_lex.specs.declared.tokens.Token.{Token}
use Rattle.vd_first_lex.specs.declared.tokens.TheConstants.{ALL, AND, ARCHITECTURE, BEGIN, END, ENTITY, IS, LIBRARY, NOT, OF, PORT, PROCESS, USE, OPENING, CLOSING, COMMA, POINT, COLON, SEMICOLON, ARROW}
use Rattle.vd_first_grammar.specs.Derivations.{Expression, name, brackets, inverted, conjoined, Further, Names, names_of, Port, listed, Process, File, ieee, std_logic_1164}
use Rattle.vd_first_grammar.specs.Conditions.{expression_names}
use Rattle.vd_first_passes.specs.Lowering.{is_among}
use Rattle.vd_first_print.specs.Writing.{fixed_token, name_token}

abbrev pub word_token : ℕ → Token
word_token n = fixed_token (Word n)

abbrev pub mark_token : ℕ → Token
mark_token n = fixed_token (Mark n)

-- ---- expressions

abbrev pub in_marks : Expression → Expression
in_marks e = brackets (mark_token OPENING) e (mark_token CLOSING)

-- an operand: brackets around all but a name
abbrev pub guarded : Expression → Expression
guarded (name t) = name t
guarded (brackets o e c) = in_marks (brackets o e c)
guarded (inverted w e) = in_marks (inverted w e)
guarded (conjoined e w f) = in_marks (conjoined e w f)

-- a left operand of `and`: brackets around a `not` alone
abbrev pub left_guarded : Expression → Expression
left_guarded (name t) = name t
left_guarded (brackets o e c) = brackets o e c
left_guarded (inverted w e) = in_marks (inverted w e)
left_guarded (conjoined e w f) = conjoined e w f

abbrev pub written_expression : Expression → Expression
written_expression (name t) = name (name_token t.text)
written_expression (brackets o e c) = written_expression e
written_expression (inverted w e) = inverted (word_token NOT) (guarded (written_expression e))
written_expression (conjoined e w f) = conjoined (left_guarded (written_expression e)) (word_token AND) (guarded (written_expression f))

-- ---- ports

-- one of the names of a port, with a declaration of its own
abbrev pub single : Port → Token → Port
single p t =
    record {
      names = record { first = name_token t.text; others = [] };
      colon = mark_token COLON;
      mode = fixed_token p.mode.kind;
      subtype = name_token p.subtype.text;
    }

abbrev pub separated : Port → Further Port
separated p = record { sign = mark_token SEMICOLON; item = p }

-- a declaration for each of these names of a port, and others behind them
abbrev pub singles : Port → List Token → List (Further Port) → List (Further Port)
singles p [] rest = rest
singles p (t ∷ ts) rest = separated (single p t) ∷ singles p ts rest

abbrev pub all_singles : List (Further Port) → List (Further Port)
all_singles [] = []
all_singles (f ∷ fs) = singles f.item (names_of f.item.names) (all_singles fs)

-- ---- processes

-- an expression has a first name, and others behind it
abbrev pub first_name : Expression → Token
first_name (name t) = t
first_name (brackets o e c) = first_name e
first_name (inverted w e) = first_name e
first_name (conjoined e w f) = first_name e

abbrev pub other_names : Expression → List Token
other_names (name t) = []
other_names (brackets o e c) = other_names e
other_names (inverted w e) = other_names e
other_names (conjoined e w f) = other_names e ++ expression_names f

-- each name once, where it comes first; some have come before
abbrev pub once : List (List ℕ) → List Token → List Token
once before [] = []
once before (t ∷ ts) = if is_among before t.text then once (with_text before t.text) ts else t ∷ once (with_text before t.text) ts

abbrev pub read_once : Expression → List Token
read_once e = first_name e ∷ once ((first_name e).text ∷ []) (other_names e)

abbrev pub further_name : Token → Further Token
further_name t = record { sign = mark_token COMMA; item = name_token t.text }

abbrev pub written_list : Expression → Names
written_list e = record { first = name_token (first_name e).text; others = map further_name (once ((first_name e).text ∷ []) (other_names e)) }

abbrev pub written_process : Process → Process
written_process p =
    record {
      head = word_token PROCESS ∷ mark_token OPENING ∷ [];
      sensitivity = listed (written_list p.value);
      closing = mark_token CLOSING;
      is_word = Some (word_token IS);
      begin_word = word_token BEGIN;
      target = name_token p.target.text;
      arrow = mark_token ARROW;
      value = written_expression p.value;
      foot = mark_token SEMICOLON ∷ word_token END ∷ word_token PROCESS ∷ mark_token SEMICOLON ∷ [];
    }

-- ---- the file

abbrev pub written_head : List Token
written_head =
    word_token LIBRARY ∷ name_token ieee ∷ mark_token SEMICOLON
    ∷ word_token USE ∷ name_token ieee ∷ mark_token POINT ∷ name_token std_logic_1164 ∷ mark_token POINT ∷ word_token ALL ∷ mark_token SEMICOLON
    ∷ word_token ENTITY ∷ []

abbrev pub written_file : File → File
written_file f =
    record {
      head = written_head;
      entity = name_token f.entity.text;
      ports_head = word_token IS ∷ word_token PORT ∷ mark_token OPENING ∷ [];
      first_port = single f.first_port f.first_port.names.first;
      other_ports = singles f.first_port (map (λ n. n.item) f.first_port.names.others) (all_singles f.other_ports);
      ports_foot = mark_token CLOSING ∷ mark_token SEMICOLON ∷ word_token END ∷ word_token ENTITY ∷ [];
      entity_closing = Some (name_token f.entity.text);
      architecture_head = mark_token SEMICOLON ∷ word_token ARCHITECTURE ∷ [];
      architecture = name_token f.architecture.text;
      of_word = word_token OF;
      of_entity = name_token f.of_entity.text;
      body_head = word_token IS ∷ word_token BEGIN ∷ [];
      processes = map written_process f.processes;
      foot = word_token END ∷ word_token ARCHITECTURE ∷ [];
      architecture_closing = Some (name_token f.architecture.text);
      last = mark_token SEMICOLON ∷ fixed_token End ∷ [];
    }
