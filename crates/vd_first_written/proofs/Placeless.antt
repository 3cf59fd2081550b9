-- A derivation without places: its tokens have the kinds and texts that they had, and no place.
use Rattle.std.specs.Prelude.{map, Option, Some, None}
use Rattle.vd_first_lex.specs.declared.tokens.Token.{Token}
use Rattle.vd_first_grammar.specs.Derivations.{Expression, name, brackets, inverted, conjoined, Further, Names, Port, Sensitivity, every, listed, Process, File}
use Rattle.vd_first_print.specs.ReadingBack.{placeless, all_placeless}

abbrev pub placeless_expression : Expression → Expression
placeless_expression (name t) = name (placeless t)
placeless_expression (brackets o e c) = brackets (placeless o) (placeless_expression e) (placeless c)
placeless_expression (inverted w e) = inverted (placeless w) (placeless_expression e)
placeless_expression (conjoined e w f) = conjoined (placeless_expression e) (placeless w) (placeless_expression f)

abbrev pub placeless_further : {X : Type 0} → (X → X) → Further X → Further X
placeless_further without f = record { sign = placeless f.sign; item = without f.item }

abbrev pub placeless_names : Names → Names
placeless_names ns = record { first = placeless ns.first; others = map (placeless_further placeless) ns.others }

abbrev pub placeless_port : Port → Port
placeless_port p = record { names = placeless_names p.names; colon = placeless p.colon; mode = placeless p.mode; subtype = placeless p.subtype }

abbrev pub placeless_sensitivity : Sensitivity → Sensitivity
placeless_sensitivity (every t) = every (placeless t)
placeless_sensitivity (listed ns) = listed (placeless_names ns)

abbrev pub placeless_option : Option Token → Option Token
placeless_option None = None
placeless_option (Some t) = Some (placeless t)

abbrev pub placeless_process : Process → Process
placeless_process p =
    record {
      head = all_placeless p.head;
      sensitivity = placeless_sensitivity p.sensitivity;
      closing = placeless p.closing;
      is_word = placeless_option p.is_word;
      begin_word = placeless p.begin_word;
      target = placeless p.target;
      arrow = placeless p.arrow;
      value = placeless_expression p.value;
      foot = all_placeless p.foot;
    }

abbrev pub placeless_file : File → File
placeless_file f =
    record {
      head = all_placeless f.head;
      entity = placeless f.entity;
      ports_head = all_placeless f.ports_head;
      first_port = placeless_port f.first_port;
      other_ports = map (placeless_further placeless_port) f.other_ports;
      ports_foot = all_placeless f.ports_foot;
      entity_closing = placeless_option f.entity_closing;
      architecture_head = all_placeless f.architecture_head;
      architecture = placeless f.architecture;
      of_word = placeless f.of_word;
      of_entity = placeless f.of_entity;
      body_head = all_placeless f.body_head;
      processes = map placeless_process f.processes;
      foot = all_placeless f.foot;
      architecture_closing = placeless_option f.architecture_closing;
      last = all_placeless f.last;
    }
