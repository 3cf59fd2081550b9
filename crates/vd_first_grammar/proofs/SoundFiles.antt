-- What is read of a file is derived so, and its tree is the shape of the derivation.
use Rattle.std.proofs.Common.{◌≡◌, ℕ, Bool, List, [], ◌∷◌, ◌++◌, Option, refl, sym, ap, ◌∙◌, append_assoc}
use Rattle.std.specs.List.{flat_map, AllByRecursion}
use Rattle.vd_bytes.specs.declared.places.Place.{Place}
use Rattle.vd_forest.specs.Forest.{Forest, nothing, turned}
use Rattle.vd_forest.proofs.ForestLemmas.{reversed_reversed}
use Rattle.vd_first_trees.specs.declared.form.Form.{Form}
use Rattle.vd_first_trees.specs.declared.form.Form.TheVariants as form
use Rattle.vd_trees.specs.declared.revision.Revision.{Revision}
use Rattle.vd_first_lex.specs.declared.tokens.Token.{Token}
use Rattle.vd_first_lex.specs.declared.tokens.TheConstants.{OF, PROCESS}
use Rattle.vd_first_grammar.specs.Symbols.{word, IsName, Is, Spell}
use Rattle.vd_first_grammar.specs.Derivations.{sensitivity_tokens, IsOptional, optional_tokens, expression_tokens, Further, Port, IsPort, port_tokens, IsFurtherPort, further_port_tokens, Process, IsProcess, process_tokens, File, IsFile, file_tokens, head_symbols, ports_head_symbols, ports_foot_symbols, architecture_symbols, body_symbols, foot_symbols, last_symbols}
use Rattle.vd_first_grammar.specs.Refusals.{place_of_token}
use Rattle.vd_first_grammar.specs.Shapes.{node, identifier, optional_identifier, port_shape, further_ports_shape, processes_shape, statements_place, file_shape}
use Rattle.vd_first_grammar.specs.Reader.{is, is_name, is_name_outside, is_same_name, token_at, spelled_at, optional_at, repeated_at, Known, no_names, take_name, ports_at, process_at, EntityRead, entity_at, body_at, architecture_at, file_tree, file_at}
use Rattle.vd_first_grammar.proofs.Steps.{OnGot, got_bind, got_weaker, token_got}
use Rattle.vd_first_grammar.proofs.SoundExpressions.{is_so, is_same_name_so, is_outside_so, spelled_got, optional_sound}
use Rattle.vd_first_grammar.proofs.SoundPorts.{ports_sound}
use Rattle.vd_first_grammar.proofs.SoundProcesses.{head_place, processes_sound}

-- ---- the entity

pub record ReadsEntity (r : Revision) (head ts : List Token) (x : EntityRead × List Token) : Type 0 where
  pub ports_head : List Token
  pub first_port : Port
  pub other_ports : List (Further Port)
  pub ports_foot : List Token
  pub closing : Option Token
  pub is_entity : IsName x.0.entity
  pub is_ports_head : Spell ports_head_symbols ports_head
  pub is_port : IsPort first_port
  pub are_ports : AllByRecursion IsFurtherPort other_ports
  pub is_foot : Spell ports_foot_symbols ports_foot
  pub is_closing : IsOptional r IsName closing
  pub tokens : x.0.entity ∷ (ports_head ++ (port_tokens first_port ++ (flat_map further_port_tokens other_ports ++ (ports_foot ++ (optional_tokens closing ++ x.1))))) ≡ ts
  pub tree : x.0.tree ≡ node form.EntityDeclaration (place_of_token head 10)
      (identifier x.0.entity
      (node form.PortClause (place_of_token ports_head 1) (port_shape first_port (further_ports_shape other_ports))
      (node form.Closing (place_of_token ports_foot 3) (optional_identifier closing) nothing)))
      nothing

pub entity_sound : (r : Revision) (known : Known) (head ts : List Token) → OnGot (entity_at r known head ts) (ReadsEntity r head ts)
unfolding entity_at
entity_sound r known head ts =
    got_bind (token_at (is_name_outside known.taken) ts) _ _ _ (token_got (is_name_outside known.taken) ts) (λ e entity.
    got_bind (spelled_at ports_head_symbols e.1) _ _ _ (spelled_got ports_head_symbols e.1) (λ h ports_head.
    got_bind (ports_at (take_name e.0.text known) h.1) _ _ _ (ports_sound (take_name e.0.text known) h.1) (λ p ports.
    got_bind (spelled_at ports_foot_symbols p.1) _ _ _ (spelled_got ports_foot_symbols p.1) (λ f foot.
    got_bind (optional_at r is_name (is_same_name e.0.text) f.1) _ _ _ (optional_sound r is_name (is_same_name e.0.text) IsName (is_same_name_so e.0.text) f.1) (λ c closing.
    let made : turned p.0.made nothing ≡ port_shape ports.first (further_ports_shape ports.others) = ap (λ (g : Forest Form). turned g nothing) ports.made ∙ reversed_reversed (port_shape ports.first (further_ports_shape ports.others)) in
    record {
      ports_head = h.0;
      first_port = ports.first;
      other_ports = ports.others;
      ports_foot = f.0;
      closing = c.0;
      is_entity = (is_outside_so known.taken e.0 entity.0).0;
      is_ports_head = ports_head.0;
      is_port = ports.is_port;
      are_ports = ports.are_ports;
      is_foot = foot.0;
      is_closing = closing.0;
      tokens =
          ap (λ (rest : List Token). e.0 ∷ rest) (ap (λ (rest : List Token). h.0 ++ rest) (ap (λ (rest : List Token). port_tokens ports.first ++ (flat_map further_port_tokens ports.others ++ rest)) (ap (λ (rest : List Token). f.0 ++ rest) closing.1 ∙ foot.1) ∙ ports.tokens) ∙ ports_head.1) ∙ entity.1;
      tree = rw made refl;
    })))))

-- ---- the architecture

-- what stands behind its name
pub record ReadsBody (r : Revision) (place : Place) (architecture : Token) (ts : List Token) (x : Forest Form × List Token) : Type 0 where
  pub of_word : Token
  pub of_entity : Token
  pub body_head : List Token
  pub processes : List Process
  pub foot : List Token
  pub closing : Option Token
  pub last : List Token
  pub is_of_word : Is (word OF) of_word
  pub is_of_entity : IsName of_entity
  pub is_body_head : Spell body_symbols body_head
  pub are_processes : AllByRecursion (IsProcess r) processes
  pub is_foot : Spell foot_symbols foot
  pub is_closing : IsOptional r IsName closing
  pub is_last : Spell last_symbols last
  pub tokens : of_word ∷ of_entity ∷ (body_head ++ (flat_map process_tokens processes ++ (foot ++ (optional_tokens closing ++ (last ++ x.1))))) ≡ ts
  pub tree : x.0 ≡ node form.ArchitectureBody place
      (identifier architecture
      (identifier of_entity
      (node form.StatementPart (statements_place processes foot) (processes_shape processes)
      (node form.Closing (place_of_token foot 1) (optional_identifier closing) nothing))))
      nothing

pub record ReadsArchitecture (r : Revision) (place : Place) (ts : List Token) (x : Forest Form × List Token) : Type 0 where
  pub architecture : Token
  pub behind : List Token
  pub is_architecture : IsName architecture
  pub body : ReadsBody r place architecture behind x
  pub tokens : architecture ∷ behind ≡ ts

-- the place of a statement part is that of what stands there
pub statements_place_at : (r : Revision) (ps : List Process) (foot rest : List Token) → AllByRecursion (IsProcess r) ps → Spell foot_symbols foot → place_of_token (flat_map process_tokens ps ++ (foot ++ rest)) 0 ≡ statements_place ps foot
statements_place_at r [] [] rest are spelled = absurd spelled
statements_place_at r [] (t ∷ foot) rest are spelled = refl
statements_place_at r (p ∷ ps) foot rest are spelled =
    let behind = sensitivity_tokens p.sensitivity ++ (p.closing ∷ (optional_tokens p.is_word ++ (p.begin_word ∷ p.target ∷ p.arrow ∷ (expression_tokens p.value ++ p.foot)))) in
    let others = flat_map process_tokens ps in
    ap (λ (ts : List Token). place_of_token ts 0) (ap (λ (ts : List Token). ts ++ (foot ++ rest)) (append_assoc p.head behind others) ∙ append_assoc p.head (behind ++ others) (foot ++ rest))
    ∙ head_place p.head ((behind ++ others) ++ (foot ++ rest)) are.0.0

body_sound : (r : Revision) (place : Place) (architecture entity : Token) (known : Known) (limit : ℕ) (ts : List Token) → OnGot (body_at r place architecture entity known limit ts) (ReadsBody r place architecture ts)
unfolding body_at
body_sound r place architecture entity known limit ts =
    got_bind (token_at (is (word OF)) ts) _ _ _ (token_got (is (word OF)) ts) (λ o of_word.
    got_bind (token_at (is_same_name entity.text) o.1) _ _ _ (token_got (is_same_name entity.text) o.1) (λ n of_entity.
    got_bind (spelled_at body_symbols n.1) _ _ _ (spelled_got body_symbols n.1) (λ b body.
    got_bind (repeated_at (is (word PROCESS)) (process_at r known limit) nothing b.1) _ _ _ (processes_sound r known limit b.1) (λ p processes.
    got_bind (spelled_at foot_symbols p.1) _ _ _ (spelled_got foot_symbols p.1) (λ f foot.
    got_bind (optional_at r is_name (is_same_name architecture.text) f.1) _ _ _ (optional_sound r is_name (is_same_name architecture.text) IsName (is_same_name_so architecture.text) f.1) (λ c closing.
    got_bind (spelled_at last_symbols c.1) _ _ _ (spelled_got last_symbols c.1) (λ l last.
    let ps = processes.processes in
    let made : turned p.0 nothing ≡ processes_shape ps = ap (λ (g : Forest Form). turned g nothing) processes.made ∙ reversed_reversed (processes_shape ps) in
    let end = optional_tokens c.0 ++ (l.0 ++ l.1) in
    let behind : flat_map process_tokens ps ++ (f.0 ++ end) ≡ b.1 = ap (λ (rest : List Token). flat_map process_tokens ps ++ rest) (ap (λ (rest : List Token). f.0 ++ rest) (ap (λ (rest : List Token). optional_tokens c.0 ++ rest) last.1 ∙ closing.1) ∙ foot.1) ∙ processes.tokens in
    let statements : place_of_token b.1 0 ≡ statements_place ps f.0 = ap (λ (ks : List Token). place_of_token ks 0) (sym behind) ∙ statements_place_at r ps f.0 end processes.are_processes foot.0 in
    record {
      of_word = o.0;
      of_entity = n.0;
      body_head = b.0;
      processes = ps;
      foot = f.0;
      closing = c.0;
      last = l.0;
      is_of_word = is_so (word OF) o.0 of_word.0;
      is_of_entity = is_same_name_so entity.text n.0 of_entity.0;
      is_body_head = body.0;
      are_processes = processes.are_processes;
      is_foot = foot.0;
      is_closing = closing.0;
      is_last = last.0;
      tokens = ap (λ (rest : List Token). o.0 ∷ rest) (ap (λ (rest : List Token). n.0 ∷ rest) (ap (λ (rest : List Token). b.0 ++ rest) behind ∙ body.1) ∙ of_entity.1) ∙ of_word.1;
      tree = rw (statements, made) refl;
    })))))))

pub architecture_sound : (r : Revision) (place : Place) (entity : Token) (known : Known) (limit : ℕ) (ts : List Token) → OnGot (architecture_at r place entity known limit ts) (ReadsArchitecture r place ts)
unfolding architecture_at
architecture_sound r place entity known limit ts =
    got_bind (token_at (is_name_outside known.taken) ts) _ _ _ (token_got (is_name_outside known.taken) ts) (λ a name.
    got_weaker (body_at r place a.0 entity known limit a.1) _ _ (λ x read. record { architecture = a.0; behind = a.1; is_architecture = (is_outside_so known.taken a.0 name.0).0; body = read; tokens = name.1 }) (body_sound r place a.0 entity known limit a.1))

-- ---- the file

pub record ReadsFile (r : Revision) (ts : List Token) (x : Forest Form × List Token) : Type 0 where
  pub file : File
  pub is_file : IsFile r file
  pub tokens : file_tokens file ++ x.1 ≡ ts
  pub tree : x.0 ≡ file_shape file

-- the rest belongs behind the last part
regroup : (head ports_head port ports ports_foot end middle body processes foot end' last rest : List Token) (e a o n : Token)
    → (head ++ (e ∷ (ports_head ++ (port ++ (ports ++ (ports_foot ++ (end ++ (middle ++ (a ∷ o ∷ n ∷ (body ++ (processes ++ (foot ++ (end' ++ last))))))))))))) ++ rest
    ≡ head ++ (e ∷ (ports_head ++ (port ++ (ports ++ (ports_foot ++ (end ++ (middle ++ (a ∷ o ∷ n ∷ (body ++ (processes ++ (foot ++ (end' ++ (last ++ rest)))))))))))))
regroup head ports_head port ports ports_foot end middle body processes foot end' last rest e a o n = simp append_assoc

file_read : (r : Revision) (head middle : List Token) (e : EntityRead) (a : Forest Form) (ts1 ts3 rest : List Token) → Spell head_symbols head → Spell architecture_symbols middle
    → ReadsEntity r head ts1 (e, middle ++ ts3) → ReadsArchitecture r (place_of_token middle 1) ts3 (a, rest) → ReadsFile r (head ++ ts1) (file_tree head e.tree (place_of_token middle 1) a, rest)
file_read r head middle e a ts1 ts3 rest is_head is_middle first second =
    let body = second.body in
    let f : File = record {
      head = head;
      entity = e.entity;
      ports_head = first.ports_head;
      first_port = first.first_port;
      other_ports = first.other_ports;
      ports_foot = first.ports_foot;
      entity_closing = first.closing;
      architecture_head = middle;
      architecture = second.architecture;
      of_word = body.of_word;
      of_entity = body.of_entity;
      body_head = body.body_head;
      processes = body.processes;
      foot = body.foot;
      architecture_closing = body.closing;
      last = body.last;
    } in
    record {
      file = f;
      is_file = record {
        head = is_head;
        entity = first.is_entity;
        ports_head = first.is_ports_head;
        first_port = first.is_port;
        other_ports = first.are_ports;
        ports_foot = first.is_foot;
        entity_closing = first.is_closing;
        architecture_head = is_middle;
        architecture = second.is_architecture;
        of_word = body.is_of_word;
        of_entity = body.is_of_entity;
        body_head = body.is_body_head;
        processes = body.are_processes;
        foot = body.is_foot;
        architecture_closing = body.is_closing;
        last = body.is_last;
      };
      tokens =
          regroup head first.ports_head (port_tokens first.first_port) (flat_map further_port_tokens first.other_ports) first.ports_foot (optional_tokens first.closing) middle body.body_head (flat_map process_tokens body.processes) body.foot (optional_tokens body.closing) body.last rest e.entity second.architecture body.of_word body.of_entity
          ∙ ap (λ (ks : List Token). head ++ ks) (ap (λ (ks : List Token). e.entity ∷ (first.ports_head ++ (port_tokens first.first_port ++ (flat_map further_port_tokens first.other_ports ++ (first.ports_foot ++ (optional_tokens first.closing ++ (middle ++ ks))))))) (ap (λ (ks : List Token). second.architecture ∷ ks) body.tokens ∙ second.tokens) ∙ first.tokens);
      tree = rw (first.tree, body.tree) refl;
    }

pub file_sound : (r : Revision) (g : Bool) (limit : ℕ) (ts : List Token) → OnGot (file_at r g limit ts) (ReadsFile r ts)
unfolding file_at
file_sound r g limit ts =
    got_bind (spelled_at head_symbols ts) _ _ _ (spelled_got head_symbols ts) (λ h head.
    got_bind (entity_at r (no_names g) h.0 h.1) _ _ _ (entity_sound r (no_names g) h.0 h.1) (λ e entity.
    got_bind (spelled_at architecture_symbols e.1) _ _ _ (spelled_got architecture_symbols e.1) (λ m middle.
    got_bind (architecture_at r (place_of_token m.0 1) e.0.entity e.0.known limit m.1) _ _ _ (architecture_sound r (place_of_token m.0 1) e.0.entity e.0.known limit m.1) (λ a architecture.
    let behind : ReadsEntity r h.0 h.1 (e.0, m.0 ++ m.1) = rw middle.1 entity in
    rw (← head.1) (file_read r h.0 m.0 e.0 a.0 h.1 m.1 a.1 head.0 middle.0 behind architecture)))))
