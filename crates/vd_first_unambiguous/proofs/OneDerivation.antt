-- No token list has two derivations.
use Rattle.std.proofs.Common.{◌≡◌, List, [], ◌∷◌, ◌++◌, arith}
use Rattle.std.specs.List.{flat_map}
use Rattle.vd_trees.specs.declared.revision.Revision.{Revision}
use Rattle.vd_first_lex.specs.declared.tokens.Token.{Token}
use Rattle.vd_first_lex.specs.declared.tokens.TheConstants.{ARCHITECTURE, END, ENTITY, PROCESS, CLOSING, SEMICOLON}
use Rattle.vd_first_grammar.specs.Symbols.{word, mark, ending, IsName, Is, Spell}
use Rattle.vd_first_grammar.specs.Derivations.{optional_tokens, process_tokens, head_symbols, ports_head_symbols, ports_foot_symbols, architecture_symbols, body_symbols, foot_symbols, last_symbols, File, IsFile, file_tokens}
use Rattle.vd_first_unambiguous.specs.OneDerivation.{HasOneDerivation}
use Rattle.vd_first_unambiguous.proofs.Cuts.{first_same, rest_same, Stops, begins_other, spell_begins, spell_stops, spell_cuts, optional_cuts}
use Rattle.vd_first_unambiguous.proofs.OneKind.{name_or_mark, other_word, other_mark}
use Rattle.vd_first_unambiguous.proofs.CutPorts.{port_cuts, further_ports_cuts}
use Rattle.vd_first_unambiguous.proofs.CutProcesses.{processes_cuts}

-- ---- the two units

-- the tokens from the architecture's name on
abbrev after_name : File → List Token
after_name f =
    f.architecture ∷ f.of_word ∷ f.of_entity
    ∷ (f.body_head
    ++ (flat_map process_tokens f.processes
    ++ (f.foot
    ++ (optional_tokens f.architecture_closing
    ++ f.last))))

-- the same parts up to the architecture's name, and the same tokens from there on
record SameEntity (f g : File) : Type 0 where
  pub head : f.head ≡ g.head
  pub entity : f.entity ≡ g.entity
  pub ports_head : f.ports_head ≡ g.ports_head
  pub first_port : f.first_port ≡ g.first_port
  pub other_ports : f.other_ports ≡ g.other_ports
  pub ports_foot : f.ports_foot ≡ g.ports_foot
  pub entity_closing : f.entity_closing ≡ g.entity_closing
  pub architecture_head : f.architecture_head ≡ g.architecture_head
  pub rest : after_name f ≡ after_name g

-- the same parts from the architecture's name on
record SameArchitecture (f g : File) : Type 0 where
  pub architecture : f.architecture ≡ g.architecture
  pub of_word : f.of_word ≡ g.of_word
  pub of_entity : f.of_entity ≡ g.of_entity
  pub body_head : f.body_head ≡ g.body_head
  pub processes : f.processes ≡ g.processes
  pub foot : f.foot ≡ g.foot
  pub architecture_closing : f.architecture_closing ≡ g.architecture_closing
  pub last : f.last ≡ g.last

-- what stands behind an optional name is no name
no_name : (t : Token) → Is (mark SEMICOLON) t → IsName t → ⊥
no_name t is_mark is_name = name_or_mark SEMICOLON t is_name is_mark

no_semicolon : (t : Token) → Is (mark CLOSING) t → Is (mark SEMICOLON) t → ⊥
no_semicolon t = other_mark CLOSING SEMICOLON (omega arith) t

no_process : (t : Token) → Is (word END) t → Is (word PROCESS) t → ⊥
no_process t = other_word END PROCESS (omega arith) t

last_stops : (us : List Token) → Spell last_symbols us → Stops IsName us
last_stops us h = begins_other (Is (mark SEMICOLON)) _ no_name us (spell_begins (mark SEMICOLON) (ending ∷ []) us h)

same_entity : (r : Revision) (f g : File) → IsFile r f → IsFile r g → file_tokens f ≡ file_tokens g → SameEntity f g
same_entity r f g h k same =
    let head = spell_cuts head_symbols f.head g.head _ _ h.head k.head same in
    let entity = rest_same f.entity g.entity _ _ head.1 in
    let ports_head = spell_cuts ports_head_symbols f.ports_head g.ports_head _ _ h.ports_head k.ports_head entity in
    let port = port_cuts f.first_port g.first_port _ _ h.first_port k.first_port ports_head.1 in
    let closing_rest = mark SEMICOLON ∷ word END ∷ word ENTITY ∷ [] in
    let ports = further_ports_cuts f.other_ports g.other_ports _ _ h.other_ports k.other_ports
    (spell_stops (Is (mark SEMICOLON)) (mark CLOSING) closing_rest no_semicolon f.ports_foot _ h.ports_foot)
    (spell_stops (Is (mark SEMICOLON)) (mark CLOSING) closing_rest no_semicolon g.ports_foot _ k.ports_foot) port.1 in
    let foot = spell_cuts ports_foot_symbols f.ports_foot g.ports_foot _ _ h.ports_foot k.ports_foot ports.1 in
    let closing = optional_cuts r IsName f.entity_closing g.entity_closing _ _ h.entity_closing k.entity_closing
    (spell_stops IsName (mark SEMICOLON) (word ARCHITECTURE ∷ []) no_name f.architecture_head _ h.architecture_head)
    (spell_stops IsName (mark SEMICOLON) (word ARCHITECTURE ∷ []) no_name g.architecture_head _ k.architecture_head) foot.1 in
    let middle = spell_cuts architecture_symbols f.architecture_head g.architecture_head (after_name f) (after_name g) h.architecture_head k.architecture_head closing.1 in
    record {
      head = head.0;
      entity = first_same f.entity g.entity _ _ head.1;
      ports_head = ports_head.0;
      first_port = port.0;
      other_ports = ports.0;
      ports_foot = foot.0;
      entity_closing = closing.0;
      architecture_head = middle.0;
      rest = middle.1;
    }

same_architecture : (r : Revision) (f g : File) → IsFile r f → IsFile r g → after_name f ≡ after_name g → SameArchitecture f g
same_architecture r f g h k same =
    let of_word = rest_same f.architecture g.architecture _ _ same in
    let of_entity = rest_same f.of_word g.of_word _ _ of_word in
    let body = rest_same f.of_entity g.of_entity _ _ of_entity in
    let body_head = spell_cuts body_symbols f.body_head g.body_head _ _ h.body_head k.body_head body in
    let processes = processes_cuts r f.processes g.processes _ _ h.processes k.processes
    (spell_stops (Is (word PROCESS)) (word END) (word ARCHITECTURE ∷ []) no_process f.foot _ h.foot)
    (spell_stops (Is (word PROCESS)) (word END) (word ARCHITECTURE ∷ []) no_process g.foot _ k.foot) body_head.1 in
    let foot = spell_cuts foot_symbols f.foot g.foot _ _ h.foot k.foot processes.1 in
    let closing = optional_cuts r IsName f.architecture_closing g.architecture_closing f.last g.last h.architecture_closing k.architecture_closing
    (last_stops f.last h.last) (last_stops g.last k.last) foot.1 in
    record {
      architecture = first_same f.architecture g.architecture _ _ same;
      of_word = first_same f.of_word g.of_word _ _ of_word;
      of_entity = first_same f.of_entity g.of_entity _ _ of_entity;
      body_head = body_head.0;
      processes = processes.0;
      foot = foot.0;
      architecture_closing = closing.0;
      last = closing.1;
    }

pub one_file : HasOneDerivation
one_file r f g first second same =
    let e = same_entity r f g first second same in
    let a = same_architecture r f g first second e.rest in
    λ i. record {
      head = e.head i;
      entity = e.entity i;
      ports_head = e.ports_head i;
      first_port = e.first_port i;
      other_ports = e.other_ports i;
      ports_foot = e.ports_foot i;
      entity_closing = e.entity_closing i;
      architecture_head = e.architecture_head i;
      architecture = a.architecture i;
      of_word = a.of_word i;
      of_entity = a.of_entity i;
      body_head = a.body_head i;
      processes = a.processes i;
      foot = a.foot i;
      architecture_closing = a.architecture_closing i;
      last = a.last i;
    }
