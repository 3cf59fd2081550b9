-- The tokens of a file's derivation are read back to its shape, wherever reading gets through.
use Rattle.std.proofs.Common.{◌≡◌, ℕ, Bool, true, false, List, [], ◌∷◌, ◌++◌, refl, sym, ap, ◌∙◌, subst, append_assoc}
use Rattle.std.specs.Prelude.{map}
use Rattle.std.specs.List.{flat_map, AllByRecursion}
use Rattle.std.proofs.lemmas.List.{append-nil}
use Rattle.vd_bytes.specs.declared.places.Place.{Place}
use Rattle.vd_forest.specs.Forest.{Forest, nothing, turned}
use Rattle.vd_forest.proofs.ForestLemmas.{reversed_reversed}
use Rattle.vd_first_trees.specs.declared.form.Form.{Form}
use Rattle.vd_trees.specs.declared.revision.Revision.{Revision}
use Rattle.vd_first_lex.specs.declared.tokens.Token.{Token}
use Rattle.vd_first_lex.specs.declared.tokens.TheConstants.{COLON, COMMA, OF, PROCESS, SEMICOLON}
use Rattle.vd_first_grammar.specs.Symbols.{word, mark, named, IsName, Spell}
use Rattle.vd_first_grammar.specs.Derivations.{std_ulogic, Further, Names, names_of, names_tokens, further_name_tokens, IsFurtherName, AreNames, Port, IsPort, port_tokens, IsFurtherPort, further_port_tokens, optional_tokens, process_tokens, File, IsFile, file_tokens, head_symbols, ports_head_symbols, ports_foot_symbols, architecture_symbols, body_symbols, foot_symbols, last_symbols}
use Rattle.vd_first_grammar.specs.Refusals.{place_of_token}
use Rattle.vd_first_grammar.specs.Shapes.{identifiers, port_shape, further_ports_shape, processes_shape, statements_place, file_shape}
use Rattle.vd_first_grammar.specs.Reader.{is, is_name, is_mode, is_name_outside, is_same_name, got, ◌>>=◌, token_at, spelled_at, begins, optional_at, repeated_at, NamesRead, with_name, further_name_at, names_at, Known, no_names, take_name, with_port, PortsRead, port_tree, port_at, further_port_at, ports_at, process_at, EntityRead, entity_tree, entity_at, architecture_tree, body_at, architecture_at, file_tree, file_at}
use Rattle.vd_first_grammar.proofs.Steps.{OnGot, got_bind}
use Rattle.vd_first_grammar.proofs.SoundFiles.{statements_place_at}
use Rattle.vd_first_grammar.proofs.Agreement.{further_name_shorter, further_port_shorter}
use Rattle.vd_first_grammar.proofs.BackExpressions.{Gets, token_gets, gets_bind, spelled_gets}
use Rattle.vd_first_grammar.proofs.BackProcesses.{round, no_round, optional_gets, processes_back}

-- ---- names

abbrev Made : Forest Form → List Token → NamesRead × List Token → Type 0
Made f rest y = (y.0.made ≡ f) × (y.1 ≡ rest)

further_names_back : (fs : List (Further Token)) (s : NamesRead) (rest : List Token) → AllByRecursion IsFurtherName fs → begins (is (mark COMMA)) rest ≡ false
    → OnGot (repeated_at (is (mark COMMA)) further_name_at s (flat_map further_name_tokens fs ++ rest)) (Made (turned (identifiers (map (λ f. f.item) fs)) s.made) rest)
unfolding further_name_at
further_names_back [] s rest h stops = no_round (is (mark COMMA)) further_name_at further_name_shorter s rest _ stops (refl, refl)
further_names_back (f ∷ fs) s rest h stops =
    let behind = flat_map further_name_tokens fs ++ rest in
    let ts = f.sign ∷ f.item ∷ behind in
    let one : Gets (further_name_at s ts) (with_name s f.item) behind =
    gets_bind (token_at (is (mark COMMA)) ts) _ f.sign (f.item ∷ behind) _ (token_gets (is (mark COMMA)) f.sign (f.item ∷ behind))
    (gets_bind (token_at (is_name_outside s.taken) (f.item ∷ behind)) _ f.item behind _ (token_gets (is_name_outside s.taken) f.item behind) (refl, refl)) in
    round (is (mark COMMA)) further_name_at further_name_shorter s ts _ (rw h.0.0 refl)
    (gets_bind (further_name_at s ts) (λ x. repeated_at (is (mark COMMA)) further_name_at x.0 x.1) (with_name s f.item) behind _ one (further_names_back fs (with_name s f.item) rest h.1 stops))

names_back : (ns : Names) (taken : List (List ℕ)) (rest : List Token) → AreNames ns → begins (is (mark COMMA)) rest ≡ false → OnGot (names_at taken (names_tokens ns ++ rest)) (Made (turned (identifiers (names_of ns)) nothing) rest)
unfolding names_at
names_back ns taken rest h stops =
    let behind = flat_map further_name_tokens ns.others ++ rest in
    gets_bind (token_at (is_name_outside taken) (ns.first ∷ behind)) _ ns.first behind _ (token_gets (is_name_outside taken) ns.first behind)
    (further_names_back ns.others (with_name (record { made = nothing; taken = taken; texts = [] }) ns.first) rest h.1 stops)

-- ---- ports

abbrev PortsMade : Forest Form → List Token → PortsRead × List Token → Type 0
PortsMade f rest y = (y.0.made ≡ f) × (y.1 ≡ rest)

port_back : (p : Port) (s : PortsRead) (rest : List Token) → IsPort p → OnGot (port_at s (port_tokens p ++ rest)) (PortsMade (port_shape p s.made) rest)
unfolding port_at
port_back p s rest h =
    let ns = p.names in
    let r1 = p.colon ∷ p.mode ∷ p.subtype ∷ rest in
    let stops : begins (is (mark COMMA)) r1 ≡ false = rw h.1 refl in
    let ts = names_tokens ns ++ r1 in
    rw append_assoc
    (got_bind (names_at s.known.taken ts) _ (Made (turned (identifiers (names_of ns)) nothing) r1) _ (names_back ns s.known.taken r1 h.0 stops) (λ x names.
    let made : turned x.0.made nothing ≡ identifiers (names_of ns) = ap (λ (f : Forest Form). turned f nothing) names.0 ∙ reversed_reversed (identifiers (names_of ns)) in
    subst (λ (r : List Token). OnGot (token_at (is (mark COLON)) r >>= λ colon. token_at is_mode colon.1 >>= λ m. token_at (is (named std_ulogic)) m.1 >>= λ subtype. got (record { made = port_tree ns.first.place x.0.made m.0 subtype.0 s.made; known = with_port s.known x.0 m.0 }, subtype.1)) (PortsMade (port_shape p s.made) rest)) (sym names.1)
    (gets_bind (token_at (is (mark COLON)) r1) _ p.colon (p.mode ∷ p.subtype ∷ rest) _ (token_gets (is (mark COLON)) p.colon (p.mode ∷ p.subtype ∷ rest))
    (gets_bind (token_at is_mode (p.mode ∷ p.subtype ∷ rest)) _ p.mode (p.subtype ∷ rest) _ (token_gets is_mode p.mode (p.subtype ∷ rest))
    (gets_bind (token_at (is (named std_ulogic)) (p.subtype ∷ rest)) _ p.subtype rest _ (token_gets (is (named std_ulogic)) p.subtype rest)
    (rw made refl, refl))))))

further_ports_back : (fs : List (Further Port)) (s : PortsRead) (rest : List Token) → AllByRecursion IsFurtherPort fs → begins (is (mark SEMICOLON)) rest ≡ false
    → OnGot (repeated_at (is (mark SEMICOLON)) further_port_at s (flat_map further_port_tokens fs ++ rest)) (PortsMade (turned (further_ports_shape fs) s.made) rest)
unfolding further_port_at
further_ports_back [] s rest h stops = no_round (is (mark SEMICOLON)) further_port_at further_port_shorter s rest _ stops (refl, refl)
further_ports_back (f ∷ fs) s rest h stops =
    let behind = flat_map further_port_tokens fs ++ rest in
    let ts = f.sign ∷ (port_tokens f.item ++ behind) in
    let one : OnGot (further_port_at s ts) (PortsMade (port_shape f.item s.made) behind) =
    gets_bind (token_at (is (mark SEMICOLON)) ts) _ f.sign (port_tokens f.item ++ behind) _ (token_gets (is (mark SEMICOLON)) f.sign (port_tokens f.item ++ behind)) (port_back f.item s behind h.0.1) in
    let rounds : OnGot (repeated_at (is (mark SEMICOLON)) further_port_at s ts) (PortsMade (turned (further_ports_shape (f ∷ fs)) s.made) rest) =
    round (is (mark SEMICOLON)) further_port_at further_port_shorter s ts _ (rw h.0.0 refl)
    (got_bind (further_port_at s ts) (λ x. repeated_at (is (mark SEMICOLON)) further_port_at x.0 x.1) (PortsMade (port_shape f.item s.made) behind) _ one (λ x made.
    let next = further_ports_back fs x.0 rest h.1 stops in
    let here : OnGot (repeated_at (is (mark SEMICOLON)) further_port_at x.0 behind) (PortsMade (turned (further_ports_shape fs) (port_shape f.item s.made)) rest) = subst (λ (g : Forest Form). OnGot (repeated_at (is (mark SEMICOLON)) further_port_at x.0 behind) (PortsMade (turned (further_ports_shape fs) g) rest)) made.0 next in
    subst (λ (r : List Token). OnGot (repeated_at (is (mark SEMICOLON)) further_port_at x.0 r) (PortsMade (turned (further_ports_shape fs) (port_shape f.item s.made)) rest)) (sym made.1) here)) in
    subst (λ (us : List Token). OnGot (repeated_at (is (mark SEMICOLON)) further_port_at s us) (PortsMade (turned (further_ports_shape (f ∷ fs)) s.made) rest)) (sym (append_assoc (further_port_tokens f) (flat_map further_port_tokens fs) rest)) rounds

ports_back : (first : Port) (fs : List (Further Port)) (known : Known) (rest : List Token) → IsPort first → AllByRecursion IsFurtherPort fs → begins (is (mark SEMICOLON)) rest ≡ false
    → OnGot (ports_at known (port_tokens first ++ (flat_map further_port_tokens fs ++ rest))) (PortsMade (turned (port_shape first (further_ports_shape fs)) nothing) rest)
unfolding ports_at
ports_back first fs known rest h all stops =
    let behind = flat_map further_port_tokens fs ++ rest in
    let start : PortsRead = record { made = nothing; known = known } in
    got_bind (port_at start (port_tokens first ++ behind)) _ (PortsMade (port_shape first nothing) behind) _ (port_back first start behind h) (λ x made.
    let next = further_ports_back fs x.0 rest all stops in
    let here = subst (λ (g : Forest Form). OnGot (repeated_at (is (mark SEMICOLON)) further_port_at x.0 behind) (PortsMade (turned (further_ports_shape fs) g) rest)) made.0 next in
    subst (λ (r : List Token). OnGot (repeated_at (is (mark SEMICOLON)) further_port_at x.0 r) (PortsMade (turned (further_ports_shape fs) (port_shape first nothing)) rest)) (sym made.1) here)

-- ---- the file

ports_foot_stops : (foot rest : List Token) → Spell ports_foot_symbols foot → begins (is (mark SEMICOLON)) (foot ++ rest) ≡ false
ports_foot_stops [] rest h = absurd h
ports_foot_stops (t ∷ ts) rest h = rw h.0 refl

processes_foot_stops : (foot rest : List Token) → Spell foot_symbols foot → begins (is (word PROCESS)) (foot ++ rest) ≡ false
processes_foot_stops [] rest h = absurd h
processes_foot_stops (t ∷ ts) rest h = rw h.0 refl

-- no name stands behind a closing name
architecture_head_stops : (head rest : List Token) → Spell architecture_symbols head → begins is_name (head ++ rest) ≡ false
architecture_head_stops [] rest h = absurd h
architecture_head_stops (t ∷ ts) rest h = rw h.0 refl

last_stops : (last : List Token) → Spell last_symbols last → begins is_name last ≡ false
last_stops [] h = absurd h
last_stops (t ∷ ts) h = rw h.0 refl

name_fits : (t : Token) → IsName t → is_name t ≡ true
name_fits t h = rw h refl

pub record EntityGot (f : File) (rest : List Token) (x : EntityRead × List Token) : Type 0 where
  pub tree : x.0.tree ≡ entity_tree f.head f.entity f.ports_head (turned (port_shape f.first_port (further_ports_shape f.other_ports)) nothing) f.ports_foot f.entity_closing
  pub behind : x.1 ≡ rest

entity_back : (r : Revision) (f : File) (known : Known) (rest : List Token) → IsFile r f → begins is_name rest ≡ false
    → OnGot (entity_at r known f.head (f.entity ∷ (f.ports_head ++ (port_tokens f.first_port ++ (flat_map further_port_tokens f.other_ports ++ (f.ports_foot ++ (optional_tokens f.entity_closing ++ rest))))))) (EntityGot f rest)
unfolding entity_at
entity_back r f known rest h stops =
    let r5 = optional_tokens f.entity_closing ++ rest in
    let r4 = f.ports_foot ++ r5 in
    let r3 = port_tokens f.first_port ++ (flat_map further_port_tokens f.other_ports ++ r4) in
    let r2 = f.ports_head ++ r3 in
    let ports = turned (port_shape f.first_port (further_ports_shape f.other_ports)) nothing in
    gets_bind (token_at (is_name_outside known.taken) (f.entity ∷ r2)) _ f.entity r2 _ (token_gets (is_name_outside known.taken) f.entity r2)
    (gets_bind (spelled_at ports_head_symbols r2) _ f.ports_head r3 _ (spelled_gets ports_head_symbols f.ports_head r3 h.ports_head)
    (got_bind (ports_at (take_name f.entity.text known) r3) _ (PortsMade ports r4) _ (ports_back f.first_port f.other_ports (take_name f.entity.text known) r4 h.first_port h.other_ports (ports_foot_stops f.ports_foot r5 h.ports_foot)) (λ x made.
    subst (λ (us : List Token). OnGot (spelled_at ports_foot_symbols us >>= λ foot. optional_at r is_name (is_same_name f.entity.text) foot.1 >>= λ closing. got (record { tree = entity_tree f.head f.entity f.ports_head x.0.made foot.0 closing.0; entity = f.entity; known = x.0.known }, closing.1)) (EntityGot f rest)) (sym made.1)
    (gets_bind (spelled_at ports_foot_symbols r4) _ f.ports_foot r5 _ (spelled_gets ports_foot_symbols f.ports_foot r5 h.ports_foot)
    (gets_bind (optional_at r is_name (is_same_name f.entity.text) r5) _ f.entity_closing rest _ (optional_gets r is_name (is_same_name f.entity.text) IsName name_fits f.entity_closing rest h.entity_closing stops)
    (record { tree = rw made.0 refl; behind = refl }))))))

architecture_back : (r : Revision) (f : File) (place : Place) (entity : Token) (known : Known) (limit : ℕ) → IsFile r f
    → OnGot (architecture_at r place entity known limit (f.architecture ∷ f.of_word ∷ f.of_entity ∷ (f.body_head ++ (flat_map process_tokens f.processes ++ (f.foot ++ (optional_tokens f.architecture_closing ++ f.last))))))
    (λ y. y.0 ≡ architecture_tree place f.architecture f.of_entity (statements_place f.processes f.foot) (turned (processes_shape f.processes) nothing) f.foot f.architecture_closing)
unfolding architecture_at body_at
architecture_back r f place entity known limit h =
    let r7 = optional_tokens f.architecture_closing ++ f.last in
    let r6 = f.foot ++ r7 in
    let r5 = flat_map process_tokens f.processes ++ r6 in
    let r4 = f.body_head ++ r5 in
    let same = is_same_name entity.text in
    let again = is_same_name f.architecture.text in
    let statements : place_of_token r5 0 ≡ statements_place f.processes f.foot = statements_place_at r f.processes f.foot r7 h.processes h.foot in
    let end : Gets (spelled_at last_symbols f.last) f.last [] = subst (λ (us : List Token). Gets (spelled_at last_symbols us) f.last []) (append-nil f.last) (spelled_gets last_symbols f.last [] h.last) in
    gets_bind (token_at (is_name_outside known.taken) (f.architecture ∷ f.of_word ∷ f.of_entity ∷ r4)) _ f.architecture (f.of_word ∷ f.of_entity ∷ r4) _ (token_gets (is_name_outside known.taken) f.architecture (f.of_word ∷ f.of_entity ∷ r4))
    (gets_bind (token_at (is (word OF)) (f.of_word ∷ f.of_entity ∷ r4)) _ f.of_word (f.of_entity ∷ r4) _ (token_gets (is (word OF)) f.of_word (f.of_entity ∷ r4))
    (gets_bind (token_at same (f.of_entity ∷ r4)) _ f.of_entity r4 _ (token_gets same f.of_entity r4)
    (gets_bind (spelled_at body_symbols r4) _ f.body_head r5 _ (spelled_gets body_symbols f.body_head r5 h.body_head)
    (gets_bind (repeated_at (is (word PROCESS)) (process_at r known limit) nothing r5) _ (turned (processes_shape f.processes) nothing) r6 _ (processes_back r f.processes known limit nothing r6 h.processes (processes_foot_stops f.foot r7 h.foot))
    (gets_bind (spelled_at foot_symbols r6) _ f.foot r7 _ (spelled_gets foot_symbols f.foot r7 h.foot)
    (gets_bind (optional_at r is_name again r7) _ f.architecture_closing f.last _ (optional_gets r is_name again IsName name_fits f.architecture_closing f.last h.architecture_closing (last_stops f.last h.last))
    (gets_bind (spelled_at last_symbols f.last) _ f.last [] _ end
    (rw statements refl))))))))

pub file_back : (r : Revision) (f : File) (g : Bool) (limit : ℕ) → IsFile r f → OnGot (file_at r g limit (file_tokens f)) (λ y. y.0 ≡ file_shape f)
unfolding file_at
file_back r f g limit h =
    let r3 = f.architecture ∷ f.of_word ∷ f.of_entity ∷ (f.body_head ++ (flat_map process_tokens f.processes ++ (f.foot ++ (optional_tokens f.architecture_closing ++ f.last)))) in
    let r2 = f.architecture_head ++ r3 in
    let r1 = f.entity ∷ (f.ports_head ++ (port_tokens f.first_port ++ (flat_map further_port_tokens f.other_ports ++ (f.ports_foot ++ (optional_tokens f.entity_closing ++ r2))))) in
    let place = place_of_token f.architecture_head 1 in
    let ports : turned (turned (port_shape f.first_port (further_ports_shape f.other_ports)) nothing) nothing ≡ port_shape f.first_port (further_ports_shape f.other_ports) = reversed_reversed (port_shape f.first_port (further_ports_shape f.other_ports)) in
    let processes : turned (turned (processes_shape f.processes) nothing) nothing ≡ processes_shape f.processes = reversed_reversed (processes_shape f.processes) in
    let entity = entity_tree f.head f.entity f.ports_head (turned (port_shape f.first_port (further_ports_shape f.other_ports)) nothing) f.ports_foot f.entity_closing in
    let architecture = architecture_tree place f.architecture f.of_entity (statements_place f.processes f.foot) (turned (processes_shape f.processes) nothing) f.foot f.architecture_closing in
    let whole_tree : file_tree f.head entity place architecture ≡ file_shape f = rw (ports, processes) refl in
    gets_bind (spelled_at head_symbols (f.head ++ r1)) _ f.head r1 _ (spelled_gets head_symbols f.head r1 h.head)
    (got_bind (entity_at r (no_names g) f.head r1) _ (EntityGot f r2) _ (entity_back r f (no_names g) r2 h (architecture_head_stops f.architecture_head r3 h.architecture_head)) (λ x e.
    subst (λ (us : List Token). OnGot (spelled_at architecture_symbols us >>= λ middle. architecture_at r (place_of_token middle.0 1) x.0.entity x.0.known limit middle.1 >>= λ a. got (file_tree f.head x.0.tree (place_of_token middle.0 1) a.0, a.1)) (λ y. y.0 ≡ file_shape f)) (sym e.behind)
    (gets_bind (spelled_at architecture_symbols r2) _ f.architecture_head r3 _ (spelled_gets architecture_symbols f.architecture_head r3 h.architecture_head)
    (got_bind (architecture_at r place x.0.entity x.0.known limit r3) _ (λ y. y.0 ≡ architecture) _ (architecture_back r f place x.0.entity x.0.known limit h) (λ a tree-is.
    ap (λ (t : Forest Form). file_tree f.head t place a.0) e.tree ∙ ap (file_tree f.head entity place) tree-is ∙ whole_tree)))))
