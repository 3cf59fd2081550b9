-- The file that is written for a 2019 file is one of 1993: it keeps to the grammar and meets the conditions, its names
-- are known, its tree is the written one, and its tokens are those that are written.
use Rattle.std.proofs.Common.{◌≡◌, ℕ, List, [], ◌∷◌, ◌++◌, map, refl, sym, ap, subst, ◌∙◌}
use Rattle.std.specs.Prelude.{Contains}
use Rattle.std.specs.List.{flat_map, AllByRecursion}
use Rattle.std.proofs.lemmas.List.{append-nil, append_assoc}
use Rattle.vd_forest.specs.Forest.{Forest, nothing, erased}
use Rattle.vd_first_trees.specs.declared.form.Form.{Form}
use Rattle.vd_first_trees.specs.declared.form.Form.TheVariants as form
use Rattle.vd_trees.specs.declared.revision.Revision.TheVariants.{V2019, V1993}
use Rattle.vd_first_lex.specs.declared.tokens.Token.{Token}
use Rattle.vd_first_lex.specs.declared.tokens.TheConstants.{ALL, ARCHITECTURE, BEGIN, END, ENTITY, IS, LIBRARY, OF, PORT, USE, OPENING, CLOSING, POINT, SEMICOLON}
use Rattle.vd_first_grammar.specs.Symbols.{Spell}
use Rattle.vd_first_grammar.specs.Derivations.{Port, port_tokens, further_port_tokens, Process, IsProcess, process_tokens, File, IsFile, file_tokens, ports_of, head_symbols, ieee, std_logic_1164}
use Rattle.vd_first_grammar.specs.Conditions.{texts_of, port_names, KeepsModes, MeetsConditions}
use Rattle.vd_first_grammar.specs.Refusals.{token_in, object_names, AllNamesKnown}
use Rattle.vd_first_grammar.specs.Shapes.{port_shape, further_ports_shape, processes_shape, file_shape}
use Rattle.vd_first_print.specs.declared.writing.Position.TheVariants.{First}
use Rattle.vd_first_print.specs.Writing.{name_token, parts_tokens, design_tokens}
use Rattle.vd_first_print.specs.ReadingBack.{placeless_end}
use Rattle.vd_first_written.specs.Written.{written_tree}
use Rattle.vd_first_written.proofs.WrittenFile.{word_token, mark_token, written_head, written_process, written_file}
use Rattle.vd_first_written.proofs.Alike.{AreAmong, keeps_modes, new_declared}
use Rattle.vd_first_written.proofs.PlacelessShapes.{bare_identifier, bare_context, bare_entity, bare_architecture, bare_file}
use Rattle.vd_first_written.proofs.WrittenPorts.{first_port_is, other_ports_are, same_port_texts, ports_among, ports_tree, ports_printed}
use Rattle.vd_first_written.proofs.WrittenProcesses.{processes_are, every_word, reads_no_more, processes_all, processes_tree, processes_printed}
use Rattle.vd_first_written.proofs.WrittenTokens.{same_tokens}

-- ---- the grammar

head_is : Spell head_symbols written_head
head_is = (refl, ((refl, refl), (refl, (refl, ((refl, refl), (refl, ((refl, refl), (refl, (refl, (refl, (refl, tt)))))))))))

pub file_is : (f : File) → IsFile V2019 f → IsFile V1993 (written_file f)
file_is f h =
    record {
      head = head_is;
      entity = refl;
      ports_head = (refl, (refl, (refl, tt)));
      first_port = first_port_is f h.first_port;
      other_ports = other_ports_are f h.first_port h.other_ports;
      ports_foot = (refl, (refl, (refl, (refl, tt))));
      entity_closing = refl;
      architecture_head = (refl, (refl, tt));
      architecture = refl;
      of_word = refl;
      of_entity = refl;
      body_head = (refl, (refl, tt));
      processes = processes_are f.processes;
      foot = (refl, (refl, tt));
      architecture_closing = refl;
      last = (refl, (refl, tt));
    }

-- ---- the conditions

modes_kept : (ps qs : List Port) → AreAmong ps qs → (rs : List Process) → AllByRecursion (IsProcess V2019) rs → AllByRecursion (KeepsModes ps) rs → AllByRecursion (KeepsModes qs) (map written_process rs)
modes_kept ps qs among [] are h = tt
modes_kept ps qs among (p ∷ rs) are h =
    let only = every_word p.sensitivity are.0.1 in
    (keeps_modes ps qs p (written_process p) among (reads_no_more p only.0 only.1) h.0, modes_kept ps qs among rs are.1 h.1)

pub conditions_met : (f : File) → IsFile V2019 f → MeetsConditions f → MeetsConditions (written_file f)
conditions_met f is h =
    record {
      declared = new_declared f (written_file f) refl (same_port_texts f) refl h.declared;
      of_entity = h.of_entity;
      entity_closing = refl;
      modes = modes_kept (ports_of f) (ports_of (written_file f)) (ports_among f) f.processes is.processes h.modes;
      architecture_closing = refl;
    }

pub names_known : (f : File) → IsFile V2019 f → AllNamesKnown f → AllNamesKnown (written_file f)
names_known f is h =
    subst (λ ts. AllByRecursion (λ t. Contains ts t.text) (object_names (written_file f))) (sym (same_port_texts f))
    (processes_all (Contains (texts_of (port_names (ports_of f)))) f.processes is.processes h)

-- ---- the tree

-- the names in the context clause
record HasContext (head : List Token) : Type 0 where
  library : ieee ≡ (token_in head 1).text
  again : ieee ≡ (token_in head 4).text
  unit : std_logic_1164 ≡ (token_in head 6).text

has_context : (head : List Token) → Spell head_symbols head → HasContext head
has_context (a ∷ b ∷ c ∷ d ∷ e ∷ f ∷ g ∷ rest) h = record { library = sym h.1.0.1; again = sym h.1.1.1.1.0.1; unit = sym h.1.1.1.1.1.1.0.1 }
has_context [] h = absurd h
has_context (a ∷ []) h = absurd h.1
has_context (a ∷ b ∷ []) h = absurd h.1.1
has_context (a ∷ b ∷ c ∷ []) h = absurd h.1.1.1
has_context (a ∷ b ∷ c ∷ d ∷ []) h = absurd h.1.1.1.1
has_context (a ∷ b ∷ c ∷ d ∷ e ∷ []) h = absurd h.1.1.1.1.1
has_context (a ∷ b ∷ c ∷ d ∷ e ∷ f ∷ []) h = absurd h.1.1.1.1.1.1

pub tree_is : (f : File) → IsFile V2019 f → erased (file_shape (written_file f)) ≡ erased (written_tree f)
tree_is f h =
    let context = has_context f.head h.head in
    let library = context.library in
    let again = context.again in
    let unit = context.unit in
    let ports = ports_tree f in
    let processes = processes_tree f.processes h.processes in
    λ i.
    bare_file (bare_context (library i) (again i) (unit i) (bare_entity f.entity.text (ports i) (bare_identifier f.entity.text nothing)))
    (bare_architecture f.architecture.text f.of_entity.text (processes i) (bare_identifier f.architecture.text nothing))

-- ---- the tokens

-- the tree of a file, from its names and from the trees of its ports and of its processes
abbrev tree_from : List ℕ → List ℕ → List ℕ → Forest Form → Forest Form → Forest Form
tree_from entity architecture of_entity ports processes =
    bare_file (bare_context ieee ieee std_logic_1164 (bare_entity entity ports (bare_identifier entity nothing)))
    (bare_architecture architecture of_entity processes (bare_identifier architecture nothing))

-- the tokens in front of its ports, those between its ports and its processes, and those behind them
abbrev front_tokens : List ℕ → List Token → List Token
front_tokens entity rest =
    word_token LIBRARY ∷ name_token ieee ∷ mark_token SEMICOLON
    ∷ word_token USE ∷ name_token ieee ∷ mark_token POINT ∷ name_token std_logic_1164 ∷ mark_token POINT ∷ word_token ALL ∷ mark_token SEMICOLON
    ∷ word_token ENTITY ∷ name_token entity ∷ word_token IS ∷ word_token PORT ∷ mark_token OPENING ∷ rest

abbrev middle_tokens : List ℕ → List ℕ → List ℕ → List Token → List Token
middle_tokens entity architecture of_entity rest =
    mark_token CLOSING ∷ mark_token SEMICOLON ∷ word_token END ∷ word_token ENTITY ∷ name_token entity ∷ mark_token SEMICOLON
    ∷ word_token ARCHITECTURE ∷ name_token architecture ∷ word_token OF ∷ name_token of_entity ∷ word_token IS ∷ word_token BEGIN ∷ rest

abbrev last_tokens : List ℕ → List Token
last_tokens architecture = word_token END ∷ word_token ARCHITECTURE ∷ name_token architecture ∷ mark_token SEMICOLON ∷ []

-- all of them, from those of its ports and of its processes
abbrev tokens_from : List ℕ → List ℕ → List ℕ → List Token → List Token → List Token
tokens_from entity architecture of_entity ports processes =
    front_tokens entity (ports ++ middle_tokens entity architecture of_entity (processes ++ last_tokens architecture))

printed : (entity architecture of_entity : List ℕ) (ports processes : Forest Form)
    → design_tokens (tree_from entity architecture of_entity ports processes)
    ≡ tokens_from entity architecture of_entity (parts_tokens form.PortClause First ports) (parts_tokens form.StatementPart First processes)
printed entity architecture of_entity ports processes = simp (append_assoc, append-nil)

-- with the end behind them, grouped as a derivation has them
ended : (entity architecture of_entity : List ℕ) (first others processes : List Token)
    → front_tokens entity (first ++ (others ++ middle_tokens entity architecture of_entity (processes ++ (last_tokens architecture ++ placeless_end ∷ []))))
    ≡ tokens_from entity architecture of_entity (first ++ others) processes ++ placeless_end ∷ []
ended entity architecture of_entity first others processes =
    let end = placeless_end ∷ [] in
    let foot = last_tokens architecture in
    let middle = middle_tokens entity architecture of_entity in
    ap (front_tokens entity)
    (sym (append_assoc first others (middle (processes ++ (foot ++ end))))
    ∙ ap (λ ts. (first ++ others) ++ middle ts) (sym (append_assoc processes foot end))
    ∙ sym (append_assoc (first ++ others) (middle (processes ++ foot)) end))

pub tokens_are : (f : File) → IsFile V2019 f → file_tokens (written_file f) ≡ design_tokens (written_tree f) ++ placeless_end ∷ []
tokens_are f h =
    let new = written_file f in
    let ports = port_shape new.first_port (further_ports_shape new.other_ports) in
    let tree = tree_from f.entity.text f.architecture.text f.of_entity.text ports (processes_shape new.processes) in
    let first = port_tokens new.first_port in
    let others = flat_map further_port_tokens new.other_ports in
    let processes = flat_map process_tokens new.processes in
    let same : design_tokens tree ≡ design_tokens (written_tree f) = same_tokens tree (written_tree f) (tree_is f h) in
    let ports_are = ports_printed f h.first_port h.other_ports in
    let processes_are = processes_printed f.processes First in
    ended f.entity.text f.architecture.text f.of_entity.text first others processes
    ∙ ap (λ ts. ts ++ placeless_end ∷ [])
    ((λ i. tokens_from f.entity.text f.architecture.text f.of_entity.text (sym ports_are i) (sym processes_are i))
    ∙ sym (printed f.entity.text f.architecture.text f.of_entity.text ports (processes_shape new.processes))
    ∙ same)
