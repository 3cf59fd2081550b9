-- A derivation keeps to the grammar just where it does so without its places.
use Rattle.std.proofs.Common.{◌≡◌, List, [], ◌∷◌, map, Option, Some, None, refl, sym, subst}
use Rattle.std.specs.List.{AllByRecursion}
use Rattle.vd_trees.specs.declared.revision.Revision.{Revision}
use Rattle.vd_trees.specs.declared.revision.Revision.TheVariants.{V2019, V1993}
use Rattle.vd_first_lex.specs.declared.tokens.Token.{Token}
use Rattle.vd_first_lex.specs.declared.tokens.TheConstants.{AND, ARROW, BEGIN, CLOSING, COLON, END, IS, NOT, OPENING, PROCESS, SEMICOLON}
use Rattle.vd_first_grammar.specs.Symbols.{Symbol, word, mark, named, ending, IsName, Is, Spell}
use Rattle.vd_first_grammar.specs.Derivations.{Expression, name, brackets, inverted, conjoined, Level, primary, factor, whole, IsExpression, Further, Names, AreNames, IsFurtherName, std_ulogic, Port, IsMode, IsPort, IsFurtherPort, Sensitivity, every, listed, IsSensitivity, IsOptional, Process, IsProcess, File, IsFile, head_symbols, ports_head_symbols, ports_foot_symbols, architecture_symbols, body_symbols, foot_symbols, last_symbols}
use Rattle.vd_first_print.specs.ReadingBack.{placeless, all_placeless}
use Rattle.vd_first_written.proofs.Placeless.{placeless_expression, placeless_further, placeless_names, placeless_port, placeless_sensitivity, placeless_option, placeless_process, placeless_file}
use Rattle.vd_first_written.proofs.Lists.{holds, all_as_mapped}

is_same : (s : Symbol) (t : Token) → Is s (placeless t) ≡ Is s t
is_same (word n) t = refl
is_same (mark n) t = refl
is_same (named text) t = refl
is_same ending t = refl

spell_same : (ss : List Symbol) (ts : List Token) → Spell ss (all_placeless ts) ≡ Spell ss ts
spell_same [] [] = refl
spell_same [] (t ∷ ts) = refl
spell_same (s ∷ ss) [] = refl
spell_same (s ∷ ss) (t ∷ ts) = λ i. is_same s t i × spell_same ss ts i

expression_same : (l : Level) (e : Expression) → IsExpression l (placeless_expression e) ≡ IsExpression l e
expression_same l (name t) = refl
expression_same l (brackets o e c) = λ i. Is (mark OPENING) o × expression_same whole e i × Is (mark CLOSING) c
expression_same primary (inverted w e) = refl
expression_same factor (inverted w e) = λ i. Is (word NOT) w × expression_same primary e i
expression_same whole (inverted w e) = λ i. Is (word NOT) w × expression_same primary e i
expression_same primary (conjoined e w f) = refl
expression_same factor (conjoined e w f) = refl
expression_same whole (conjoined e w f) = λ i. expression_same whole e i × Is (word AND) w × expression_same factor f i

names_same : (ns : Names) → AreNames (placeless_names ns) ≡ AreNames ns
names_same ns = λ i. IsName ns.first × all_as_mapped IsFurtherName IsFurtherName (placeless_further placeless) (λ f. refl) ns.others i

port_same : (p : Port) → IsPort (placeless_port p) ≡ IsPort p
port_same p = λ i. names_same p.names i × Is (mark COLON) p.colon × IsMode p.mode × Is (named std_ulogic) p.subtype

further_port_same : (f : Further Port) → IsFurtherPort (placeless_further placeless_port f) ≡ IsFurtherPort f
further_port_same f = λ i. Is (mark SEMICOLON) f.sign × port_same f.item i

sensitivity_same : (r : Revision) (s : Sensitivity) → IsSensitivity r (placeless_sensitivity s) ≡ IsSensitivity r s
sensitivity_same V2019 (every t) = refl
sensitivity_same V2019 (listed ns) = refl
sensitivity_same V1993 (every t) = refl
sensitivity_same V1993 (listed ns) = names_same ns

optional_same : (r : Revision) (s : Token → Type 0) → ((t : Token) → s (placeless t) ≡ s t) → (o : Option Token) → IsOptional r s (placeless_option o) ≡ IsOptional r s o
optional_same r s each None = refl
optional_same V2019 s each (Some t) = refl
optional_same V1993 s each (Some t) = each t

process_same : (r : Revision) (p : Process) → IsProcess r (placeless_process p) ≡ IsProcess r p
process_same r p =
    λ i.
    spell_same (word PROCESS ∷ mark OPENING ∷ []) p.head i
    × sensitivity_same r p.sensitivity i
    × Is (mark CLOSING) p.closing
    × optional_same r (Is (word IS)) (λ t. refl) p.is_word i
    × Is (word BEGIN) p.begin_word
    × IsName p.target
    × Is (mark ARROW) p.arrow
    × expression_same whole p.value i
    × spell_same (mark SEMICOLON ∷ word END ∷ word PROCESS ∷ mark SEMICOLON ∷ []) p.foot i

further_ports_same : (fs : List (Further Port)) → AllByRecursion IsFurtherPort (map (placeless_further placeless_port) fs) ≡ AllByRecursion IsFurtherPort fs
further_ports_same = all_as_mapped IsFurtherPort IsFurtherPort (placeless_further placeless_port) further_port_same

processes_same : (r : Revision) (ps : List Process) → AllByRecursion (IsProcess r) (map placeless_process ps) ≡ AllByRecursion (IsProcess r) ps
processes_same r = all_as_mapped (IsProcess r) (IsProcess r) placeless_process (process_same r)

pub file_placeless : (r : Revision) (f : File) → IsFile r (placeless_file f) → IsFile r f
file_placeless r f h =
    record {
      head = holds (spell_same head_symbols f.head) h.head;
      entity = h.entity;
      ports_head = holds (spell_same ports_head_symbols f.ports_head) h.ports_head;
      first_port = holds (port_same f.first_port) h.first_port;
      other_ports = holds (further_ports_same f.other_ports) h.other_ports;
      ports_foot = holds (spell_same ports_foot_symbols f.ports_foot) h.ports_foot;
      entity_closing = holds (optional_same r IsName (λ t. refl) f.entity_closing) h.entity_closing;
      architecture_head = holds (spell_same architecture_symbols f.architecture_head) h.architecture_head;
      architecture = h.architecture;
      of_word = h.of_word;
      of_entity = h.of_entity;
      body_head = holds (spell_same body_symbols f.body_head) h.body_head;
      processes = holds (processes_same r f.processes) h.processes;
      foot = holds (spell_same foot_symbols f.foot) h.foot;
      architecture_closing = holds (optional_same r IsName (λ t. refl) f.architecture_closing) h.architecture_closing;
      last = holds (spell_same last_symbols f.last) h.last;
    }

placeless_is_file : (r : Revision) (f : File) → IsFile r f → IsFile r (placeless_file f)
placeless_is_file r f h =
    record {
      head = holds (sym (spell_same head_symbols f.head)) h.head;
      entity = h.entity;
      ports_head = holds (sym (spell_same ports_head_symbols f.ports_head)) h.ports_head;
      first_port = holds (sym (port_same f.first_port)) h.first_port;
      other_ports = holds (sym (further_ports_same f.other_ports)) h.other_ports;
      ports_foot = holds (sym (spell_same ports_foot_symbols f.ports_foot)) h.ports_foot;
      entity_closing = holds (sym (optional_same r IsName (λ t. refl) f.entity_closing)) h.entity_closing;
      architecture_head = holds (sym (spell_same architecture_symbols f.architecture_head)) h.architecture_head;
      architecture = h.architecture;
      of_word = h.of_word;
      of_entity = h.of_entity;
      body_head = holds (sym (spell_same body_symbols f.body_head)) h.body_head;
      processes = holds (sym (processes_same r f.processes)) h.processes;
      foot = holds (sym (spell_same foot_symbols f.foot)) h.foot;
      architecture_closing = holds (sym (optional_same r IsName (λ t. refl) f.architecture_closing)) h.architecture_closing;
      last = holds (sym (spell_same last_symbols f.last)) h.last;
    }

-- so two derivations that are the same up to places keep to it alike
pub is_file_alike : (r : Revision) (f g : File) → placeless_file f ≡ placeless_file g → IsFile r f → IsFile r g
is_file_alike r f g same h = file_placeless r g (subst (IsFile r) same (placeless_is_file r f h))
