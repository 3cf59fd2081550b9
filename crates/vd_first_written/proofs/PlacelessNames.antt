-- A derivation meets the conditions on names, and has known names alone, just where it does so without its places.
use Rattle.std.proofs.Common.{◌≡◌, ℕ, List, [], ◌∷◌, map, Option, Some, None, refl, sym, ap, subst, ◌∙◌}
use Rattle.std.specs.Prelude.{Contains, ◌⊎◌}
use Rattle.std.specs.List.{flat_map, AllByRecursion}
use Rattle.vd_first_lex.specs.declared.tokens.Token.{Token}
use Rattle.vd_first_grammar.specs.Symbols.{word, Is}
use Rattle.vd_first_grammar.specs.Derivations.{Expression, name, brackets, inverted, conjoined, Further, Names, names_of, Port, Sensitivity, every, listed, Process, File, ports_of}
use Rattle.vd_first_grammar.specs.Conditions.{texts_of, port_names, IsPortOf, expression_names, sensitivity_names, read_names, process_names, Repeats, KeepsModes, MeetsConditions}
use Rattle.vd_first_grammar.specs.Refusals.{object_names, AllNamesKnown}
use Rattle.vd_first_print.specs.ReadingBack.{placeless}
use Rattle.vd_first_written.proofs.Placeless.{placeless_expression, placeless_further, placeless_names, placeless_port, placeless_sensitivity, placeless_option, placeless_process, placeless_file}
use Rattle.vd_first_written.proofs.Lists.{holds, all_mapped, all_unmapped, all_texts, texts_append}
use Rattle.vd_first_written.proofs.Alike.{keeps_modes, same_texts, new_declared}

-- ---- the texts of names

other_names_placeless : (fs : List (Further Token)) → texts_of (map (λ f. f.item) (map (placeless_further placeless) fs)) ≡ texts_of (map (λ f. f.item) fs)
other_names_placeless [] = refl
other_names_placeless (f ∷ fs) = ap (λ ts. f.item.text ∷ ts) (other_names_placeless fs)

pub names_placeless : (ns : Names) → texts_of (names_of (placeless_names ns)) ≡ texts_of (names_of ns)
names_placeless ns = ap (λ ts. ns.first.text ∷ ts) (other_names_placeless ns.others)

expression_names_placeless : (e : Expression) → texts_of (expression_names (placeless_expression e)) ≡ texts_of (expression_names e)
expression_names_placeless (name t) = refl
expression_names_placeless (brackets o e c) = expression_names_placeless e
expression_names_placeless (inverted w e) = expression_names_placeless e
expression_names_placeless (conjoined e w f) =
    texts_append (expression_names (placeless_expression e)) (expression_names (placeless_expression f)) (expression_names e) (expression_names f) (expression_names_placeless e) (expression_names_placeless f)

sensitivity_names_placeless : (s : Sensitivity) → texts_of (sensitivity_names (placeless_sensitivity s)) ≡ texts_of (sensitivity_names s)
sensitivity_names_placeless (every t) = refl
sensitivity_names_placeless (listed ns) = names_placeless ns

read_names_placeless : (p : Process) → texts_of (read_names (placeless_process p)) ≡ texts_of (read_names p)
read_names_placeless p =
    texts_append (sensitivity_names (placeless_sensitivity p.sensitivity)) (expression_names (placeless_expression p.value)) (sensitivity_names p.sensitivity) (expression_names p.value)
    (sensitivity_names_placeless p.sensitivity) (expression_names_placeless p.value)

process_names_placeless : (p : Process) → texts_of (process_names (placeless_process p)) ≡ texts_of (process_names p)
process_names_placeless p =
    texts_append (sensitivity_names (placeless_sensitivity p.sensitivity)) (placeless p.target ∷ expression_names (placeless_expression p.value)) (sensitivity_names p.sensitivity) (p.target ∷ expression_names p.value)
    (sensitivity_names_placeless p.sensitivity) (ap (λ ts. p.target.text ∷ ts) (expression_names_placeless p.value))

all_names_placeless : (ps : List Process) → texts_of (flat_map process_names (map placeless_process ps)) ≡ texts_of (flat_map process_names ps)
all_names_placeless [] = refl
all_names_placeless (p ∷ ps) =
    texts_append (process_names (placeless_process p)) (flat_map process_names (map placeless_process ps)) (process_names p) (flat_map process_names ps)
    (process_names_placeless p) (all_names_placeless ps)

-- ---- ports

abbrev pub items : List (Further Port) → List Port
items fs = map (λ f. f.item) fs

other_ports_placeless : (fs : List (Further Port)) → texts_of (port_names (items (map (placeless_further placeless_port) fs))) ≡ texts_of (port_names (items fs))
other_ports_placeless [] = refl
other_ports_placeless (f ∷ fs) =
    texts_append (names_of (placeless_names f.item.names)) (port_names (items (map (placeless_further placeless_port) fs))) (names_of f.item.names) (port_names (items fs))
    (names_placeless f.item.names) (other_ports_placeless fs)

ports_placeless : (f : File) → texts_of (port_names (ports_of (placeless_file f))) ≡ texts_of (port_names (ports_of f))
ports_placeless f =
    texts_append (names_of (placeless_names f.first_port.names)) (port_names (items (map (placeless_further placeless_port) f.other_ports))) (names_of f.first_port.names) (port_names (items f.other_ports))
    (names_placeless f.first_port.names) (other_ports_placeless f.other_ports)

-- a port's names have its mode with and without its places
more_same : (mode : ℕ) (text : List ℕ) (p : Port) (ps qs : List Port) → IsPortOf mode ps text ≡ IsPortOf mode qs text → IsPortOf mode (placeless_port p ∷ ps) text ≡ IsPortOf mode (p ∷ qs) text
more_same mode text p ps qs rest = λ i. (Is (word mode) p.mode × Contains (names_placeless p.names i) text) ⊎ rest i

others_same : (mode : ℕ) (text : List ℕ) (fs : List (Further Port)) → IsPortOf mode (items (map (placeless_further placeless_port) fs)) text ≡ IsPortOf mode (items fs) text
others_same mode text [] = refl
others_same mode text (f ∷ fs) = more_same mode text f.item (items (map (placeless_further placeless_port) fs)) (items fs) (others_same mode text fs)

port_of_same : (mode : ℕ) (text : List ℕ) (f : File) → IsPortOf mode (ports_of (placeless_file f)) text ≡ IsPortOf mode (ports_of f) text
port_of_same mode text f = more_same mode text f.first_port (items (map (placeless_further placeless_port) f.other_ports)) (items f.other_ports) (others_same mode text f.other_ports)

-- ---- the file

repeats_same : (text : List ℕ) (o : Option Token) → Repeats text (placeless_option o) ≡ Repeats text o
repeats_same text None = refl
repeats_same text (Some t) = refl

modes_placeless : (f : File) (p : Process) → KeepsModes (ports_of (placeless_file f)) (placeless_process p) → KeepsModes (ports_of f) p
modes_placeless f p =
    keeps_modes (ports_of (placeless_file f)) (ports_of f) (placeless_process p) p (λ mode text. holds (sym (port_of_same mode text f)))
    (record { reads = λ Q. same_texts Q (read_names (placeless_process p)) (read_names p) (sym (read_names_placeless p)); target = refl })

placeless_modes : (f : File) (p : Process) → KeepsModes (ports_of f) p → KeepsModes (ports_of (placeless_file f)) (placeless_process p)
placeless_modes f p =
    keeps_modes (ports_of f) (ports_of (placeless_file f)) p (placeless_process p) (λ mode text. holds (port_of_same mode text f))
    (record { reads = λ Q. same_texts Q (read_names p) (read_names (placeless_process p)) (read_names_placeless p); target = refl })

conditions_placeless : (f : File) → MeetsConditions (placeless_file f) → MeetsConditions f
conditions_placeless f h =
    record {
      declared = new_declared (placeless_file f) f refl (sym (ports_placeless f)) refl h.declared;
      of_entity = h.of_entity;
      entity_closing = holds (repeats_same f.entity.text f.entity_closing) h.entity_closing;
      modes = all_unmapped (KeepsModes (ports_of f)) (KeepsModes (ports_of (placeless_file f))) placeless_process (modes_placeless f) f.processes h.modes;
      architecture_closing = holds (repeats_same f.architecture.text f.architecture_closing) h.architecture_closing;
    }

placeless_conditions : (f : File) → MeetsConditions f → MeetsConditions (placeless_file f)
placeless_conditions f h =
    record {
      declared = new_declared f (placeless_file f) refl (ports_placeless f) refl h.declared;
      of_entity = h.of_entity;
      entity_closing = holds (sym (repeats_same f.entity.text f.entity_closing)) h.entity_closing;
      modes = all_mapped (KeepsModes (ports_of f)) (KeepsModes (ports_of (placeless_file f))) placeless_process (placeless_modes f) f.processes h.modes;
      architecture_closing = holds (sym (repeats_same f.architecture.text f.architecture_closing)) h.architecture_closing;
    }

known_same : (f : File) → AllNamesKnown (placeless_file f) ≡ AllNamesKnown f
known_same f =
    all_texts (Contains (texts_of (port_names (ports_of (placeless_file f))))) (object_names (placeless_file f))
    ∙ (λ i. AllByRecursion (Contains (ports_placeless f i)) (all_names_placeless f.processes i))
    ∙ sym (all_texts (Contains (texts_of (port_names (ports_of f)))) (object_names f))

-- so derivations that are the same up to places meet the conditions alike, and have known names alike
pub conditions_alike : (f g : File) → placeless_file f ≡ placeless_file g → MeetsConditions f → MeetsConditions g
conditions_alike f g same h = conditions_placeless g (subst MeetsConditions same (placeless_conditions f h))

pub known_alike : (f g : File) → placeless_file f ≡ placeless_file g → AllNamesKnown f → AllNamesKnown g
known_alike f g same h = holds (sym (known_same f) ∙ ap AllNamesKnown same ∙ known_same g) h
