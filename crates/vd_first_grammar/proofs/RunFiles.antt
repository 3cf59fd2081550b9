-- Reading on through the tokens of processes and of a file.
use Rattle.std.proofs.Common.{◌≡◌, ℕ, Bool, true, false, List, [], ◌∷◌, ◌++◌, Option, Some, None, refl, sym, ap, ◌∙◌, append_assoc}
use Rattle.std.specs.Prelude.{◌&&◌, not, map}
use Rattle.std.specs.Str.{bytes_eq}
use Rattle.std.specs.List.{flat_map, AllByRecursion}
use Rattle.std.proofs.Math.Bool.{and_assoc, and-true}
use Rattle.std.proofs.lemmas.List.{append-nil}
use Rattle.vd_trees.specs.declared.revision.Revision.{Revision}
use Rattle.vd_trees.specs.declared.revision.Revision.TheVariants.{V2019, V1993}
use Rattle.vd_first_lex.specs.declared.tokens.Token.{Token}
use Rattle.vd_first_lex.specs.declared.tokens.TheConstants.{ALL, ARCHITECTURE, BEGIN, END, IS, OF, PROCESS, OPENING, CLOSING, SEMICOLON, ARROW}
use Rattle.vd_first_grammar.specs.Symbols.{Symbol, word, mark, ending, IsName, Is, Spell}
use Rattle.vd_first_grammar.specs.Derivations.{whole, expression_tokens, Further, further_name_tokens, IsFurtherName, port_tokens, further_port_tokens, Sensitivity, every, listed, IsSensitivity, sensitivity_tokens, IsOptional, optional_tokens, Process, IsProcess, process_tokens, File, IsFile, file_tokens, head_symbols, ports_head_symbols, ports_foot_symbols, body_symbols, foot_symbols, last_symbols}
use Rattle.vd_first_grammar.specs.Conditions.{all_at, expression_depths, process_depths, file_depths, sensitivity_names}
use Rattle.vd_first_grammar.specs.Reader.{among, Known}
use Rattle.vd_first_grammar.proofs.Machine.{Item, fixed, fixed_all, entity_name, ports_end, port_items, rest_of_ports_foot, unit_end, architecture_name, entity_again, processes_end, listed_name, listed_end, process_begin, sensitivity_items, begin_item, assignment_items, process_items, closing_item, target, operand, expression_end, file_items, Memory, no_memory, remember, unit_name, Run, before, run}
use Rattle.vd_first_grammar.proofs.RunExpressions.{run_token, before_before, fair_expression, run_expression}
use Rattle.vd_first_grammar.proofs.RunPorts.{run_fixed, all_new, port_texts, after_port, run_port, fair_ports, after_ports, run_further_ports}

-- ---- processes

run_head : (r : Revision) (ts : List Token) (m : Memory) (is' : List Item) (rest : List Token) → Spell (word PROCESS ∷ mark OPENING ∷ []) ts
    → run m (processes_end r ∷ is') (ts ++ rest) ≡ before (all_at 1 ts) true (run m (sensitivity_items r ++ (begin_item r ∷ (assignment_items ++ processes_end r ∷ is'))) rest)
run_head r [] m is' rest h = absurd h
run_head r (a ∷ []) m is' rest h = absurd h.1
run_head r (a ∷ b ∷ []) m is' rest h =
    run_token m m (processes_end r) is' a (b ∷ rest) (process_items r) 1 true (rw h.0 refl) (rw h.0 refl) refl refl
    ∙ ap (before (1 ∷ []) true)
    (run_token m m (fixed 1 (mark OPENING)) _ b rest [] 1 true (rw h.1.0 refl) refl refl refl
    ∙ ap (λ (ks : List Item). before (1 ∷ []) true (run m ks rest)) (append_assoc (sensitivity_items r) (begin_item r ∷ (assignment_items ++ processes_end r ∷ [])) is'))
run_head r (a ∷ b ∷ c ∷ ts) m is' rest h = absurd h.1.1

-- none of these is the name of an `out` port
abbrev pub fair_names : List (List ℕ) → List Token → Bool
fair_names outs [] = true
fair_names outs (t ∷ ts) = not (among outs t.text) && fair_names outs ts

run_listed : (fs : List (Further Token)) (m : Memory) (is' : List Item) (c : Token) (rest : List Token) → AllByRecursion IsFurtherName fs → Is (mark CLOSING) c
    → run m (listed_end ∷ is') (flat_map further_name_tokens fs ++ (c ∷ rest)) ≡ before (all_at 1 (flat_map further_name_tokens fs) ++ 1 ∷ []) (fair_names m.known.outs (map (λ f. f.item) fs)) (run m is' rest)
run_listed [] m is' c rest h hc = run_token m m listed_end is' c rest [] 1 true (rw hc refl) refl refl refl
run_listed (f ∷ fs) m is' c rest h hc =
    let t = f.item in
    let more = flat_map further_name_tokens fs in
    let fair = not (among m.known.outs t.text) in
    let comma = run_token m m listed_end is' f.sign (t ∷ (more ++ (c ∷ rest))) (listed_name ∷ listed_end ∷ []) 1 true (rw h.0.0 refl) refl refl refl in
    let one = run_token m m listed_name (listed_end ∷ is') t (more ++ (c ∷ rest)) [] 1 fair (rw h.0.1 refl) refl refl refl in
    comma ∙ ap (before (1 ∷ []) true) (one ∙ ap (before (1 ∷ []) fair) (run_listed fs m is' c rest h.1 hc))
    ∙ rw and_assoc refl

-- the sensitivity of a process and the bracket behind it
run_sensitivity : (r : Revision) (s : Sensitivity) (m : Memory) (is' : List Item) (c : Token) (rest : List Token) → IsSensitivity r s → Is (mark CLOSING) c
    → run m (sensitivity_items r ++ is') (sensitivity_tokens s ++ (c ∷ rest)) ≡ before (all_at 1 (sensitivity_tokens s) ++ 1 ∷ []) (fair_names m.known.outs (sensitivity_names s)) (run m is' rest)
run_sensitivity V2019 (every t) m is' c rest h hc = run_fixed 1 (word ALL ∷ mark CLOSING ∷ []) (t ∷ c ∷ []) m is' rest (h, (hc, tt))
run_sensitivity V2019 (listed ns) m is' c rest h hc = absurd h
run_sensitivity V1993 (every t) m is' c rest h hc = absurd h
run_sensitivity V1993 (listed ns) m is' c rest h hc =
    let fair = not (among m.known.outs ns.first.text) in
    let more = flat_map further_name_tokens ns.others in
    run_token m m listed_name (listed_end ∷ is') ns.first (more ++ (c ∷ rest)) [] 1 fair (rw h.0 refl) refl refl refl
    ∙ ap (before (1 ∷ []) fair) (run_listed ns.others m is' c rest h.1 hc)
    ∙ rw and_assoc refl

pub none_optional : (P : Token → Type 0) (o : Option Token) → IsOptional V2019 P o → o ≡ None
none_optional P None h = refl
none_optional P (Some t) h = absurd h

-- the word `is`, where it stands, and the word `begin`
run_begin : (r : Revision) (o : Option Token) (b : Token) (m : Memory) (is' : List Item) (rest : List Token) → IsOptional r (Is (word IS)) o → Is (word BEGIN) b
    → run m (begin_item r ∷ is') (optional_tokens o ++ (b ∷ rest)) ≡ before (all_at 1 (optional_tokens o) ++ 1 ∷ []) true (run m is' rest)
run_begin V2019 None b m is' rest h hb = run_token m m (fixed 1 (word BEGIN)) is' b rest [] 1 true (rw hb refl) refl refl refl
run_begin V2019 (Some t) b m is' rest h hb = absurd h
run_begin V1993 None b m is' rest h hb = run_token m m process_begin is' b rest [] 1 true (rw hb refl) refl refl refl
run_begin V1993 (Some t) b m is' rest h hb =
    run_token m m process_begin is' t (b ∷ rest) (fixed 1 (word BEGIN) ∷ []) 1 true (rw h refl) refl refl refl
    ∙ ap (before (1 ∷ []) true) (run_token m m (fixed 1 (word BEGIN)) is' b rest [] 1 true (rw hb refl) refl refl refl)

run_foot : (ts : List Token) (m : Memory) (is' : List Item) (rest : List Token) → Spell (mark SEMICOLON ∷ word END ∷ word PROCESS ∷ mark SEMICOLON ∷ []) ts
    → run m (expression_end 2 SEMICOLON ∷ fixed 1 (word END) ∷ fixed 1 (word PROCESS) ∷ fixed 1 (mark SEMICOLON) ∷ is') (ts ++ rest) ≡ before (2 ∷ 1 ∷ 1 ∷ 1 ∷ []) true (run m is' rest)
run_foot [] m is' rest h = absurd h
run_foot (a ∷ []) m is' rest h = absurd h.1
run_foot (a ∷ b ∷ []) m is' rest h = absurd h.1.1
run_foot (a ∷ b ∷ c ∷ []) m is' rest h = absurd h.1.1.1
run_foot (a ∷ b ∷ c ∷ d ∷ []) m is' rest h =
    run_token m m (expression_end 2 SEMICOLON) _ a (b ∷ c ∷ d ∷ rest) [] 2 true (rw h.0 refl) (rw h.0 refl) refl refl
    ∙ ap (before (2 ∷ []) true) (run_fixed 1 (word END ∷ word PROCESS ∷ mark SEMICOLON ∷ []) (b ∷ c ∷ d ∷ []) m is' rest h.1)
run_foot (a ∷ b ∷ c ∷ d ∷ e ∷ ts) m is' rest h = absurd h.1.1.1.1

abbrev pub fair_process : Known → Process → Bool
fair_process k p = fair_names k.outs (sensitivity_names p.sensitivity) && (not (among k.ins p.target.text) && fair_expression k.outs p.value)

pub process_parts : (p : Process) (rest : List Token) → process_tokens p ++ rest ≡ p.head ++ (sensitivity_tokens p.sensitivity ++ (p.closing ∷ (optional_tokens p.is_word ++ (p.begin_word ∷ p.target ∷ p.arrow ∷ (expression_tokens p.value ++ (p.foot ++ rest))))))
process_parts p rest = simp append_assoc

pub run_process : (r : Revision) (p : Process) (m : Memory) (is' : List Item) (rest : List Token) → IsProcess r p
    → run m (processes_end r ∷ is') (process_tokens p ++ rest) ≡ before (process_depths p) (fair_process m.known p) (run m (processes_end r ∷ is') rest)
run_process r p m is' rest h =
    let value = p.value in
    let again = processes_end r ∷ is' in
    let ends = fixed 1 (word END) ∷ fixed 1 (word PROCESS) ∷ fixed 1 (mark SEMICOLON) ∷ again in
    let rest3 = expression_tokens value ++ (p.foot ++ rest) in
    let rest2 = p.target ∷ p.arrow ∷ rest3 in
    let rest1 = optional_tokens p.is_word ++ (p.begin_word ∷ rest2) in
    let fair_list = fair_names m.known.outs (sensitivity_names p.sensitivity) in
    let fair_target = not (among m.known.ins p.target.text) in
    let head = run_head r p.head m is' (sensitivity_tokens p.sensitivity ++ (p.closing ∷ rest1)) h.0 in
    let sens = run_sensitivity r p.sensitivity m (begin_item r ∷ (assignment_items ++ again)) p.closing rest1 h.1 h.2 in
    let begins = run_begin r p.is_word p.begin_word m (assignment_items ++ again) rest2 h.3 h.4 in
    let targets = run_token m m target (fixed 2 (mark ARROW) ∷ operand 3 true ∷ expression_end 2 SEMICOLON ∷ ends) p.target (p.arrow ∷ rest3) [] 2 fair_target (rw h.5 refl) refl refl refl in
    let arrow = run_token m m (fixed 2 (mark ARROW)) (operand 3 true ∷ expression_end 2 SEMICOLON ∷ ends) p.arrow rest3 [] 2 true (rw h.6 refl) refl refl refl in
    let values = run_expression whole value m 3 (expression_end 2 SEMICOLON ∷ ends) (p.foot ++ rest) h.7 (2, SEMICOLON, ends, refl, refl) in
    let foot = run_foot p.foot m again rest h.8 in
    ap (run m again) (process_parts p rest)
    ∙ head ∙ ap (before (all_at 1 p.head) true) (sens
    ∙ ap (before (all_at 1 (sensitivity_tokens p.sensitivity) ++ 1 ∷ []) fair_list) (begins
    ∙ ap (before (all_at 1 (optional_tokens p.is_word) ++ 1 ∷ []) true) (targets
    ∙ ap (before (2 ∷ []) fair_target) (arrow
    ∙ ap (before (2 ∷ []) true) (values
    ∙ ap (before (expression_depths 3 value) (fair_expression m.known.outs value)) foot)))))
    ∙ simp (append_assoc, and_assoc)

abbrev pub fair_processes : Known → List Process → Bool
fair_processes k [] = true
fair_processes k (p ∷ ps) = fair_process k p && fair_processes k ps

pub run_processes : (r : Revision) (ps : List Process) (m : Memory) (is' : List Item) (rest : List Token) → AllByRecursion (IsProcess r) ps
    → run m (processes_end r ∷ is') (flat_map process_tokens ps ++ rest) ≡ before (flat_map process_depths ps) (fair_processes m.known ps) (run m (processes_end r ∷ is') rest)
run_processes r [] m is' rest h = refl
run_processes r (p ∷ ps) m is' rest h =
    ap (run m (processes_end r ∷ is')) (append_assoc (process_tokens p) (flat_map process_tokens ps) rest)
    ∙ run_process r p m is' (flat_map process_tokens ps ++ rest) h.0
    ∙ ap (before (process_depths p) (fair_process m.known p)) (run_processes r ps m is' rest h.1)
    ∙ before_before (process_depths p) (flat_map process_depths ps) (fair_process m.known p) (fair_processes m.known ps) (run m (processes_end r ∷ is') rest)

-- ---- the end of a unit

abbrev pub fair_closing : List ℕ → Option Token → Bool
fair_closing text None = true
fair_closing text (Some t) = bytes_eq t.text text

run_closing : (r : Revision) (w : Bool) (s : Symbol) (o : Option Token) (ts : List Token) (m : Memory) (is' : List Item) (rest : List Token) → IsOptional r IsName o → Spell (mark SEMICOLON ∷ s ∷ []) ts
    → run m (closing_item r w ∷ fixed 0 s ∷ is') (optional_tokens o ++ (ts ++ rest)) ≡ before (all_at 0 (optional_tokens o) ++ all_at 0 ts) (fair_closing (unit_name m w) o) (run m is' rest)
run_closing V2019 w s None ts m is' rest h hs = run_fixed 0 (mark SEMICOLON ∷ s ∷ []) ts m is' rest hs
run_closing V2019 w s (Some t) ts m is' rest h hs = absurd h
run_closing V1993 w s None [] m is' rest h hs = absurd hs
run_closing V1993 w s None (c ∷ ts) m is' rest h hs =
    run_token m m (unit_end w) (fixed 0 s ∷ is') c (ts ++ rest) [] 0 true (rw hs.0 refl) refl (rw hs.0 refl) refl
    ∙ ap (before (0 ∷ []) true) (run_fixed 0 (s ∷ []) ts m is' rest hs.1)
run_closing V1993 w s (Some t) ts m is' rest h hs =
    let same = bytes_eq t.text (unit_name m w) in
    run_token m m (unit_end w) (fixed 0 s ∷ is') t (ts ++ rest) (fixed 0 (mark SEMICOLON) ∷ []) 0 same (rw h refl) refl (rw h refl) refl
    ∙ ap (before (0 ∷ []) same) (run_fixed 0 (mark SEMICOLON ∷ s ∷ []) ts m is' rest hs)

-- nothing is left, and nothing more comes
abbrev all_read : Run
all_read = record { left = Some []; depths = []; fair = true }

run_last : (r : Revision) (o : Option Token) (ts : List Token) (m : Memory) → IsOptional r IsName o → Spell last_symbols ts
    → run m (closing_item r false ∷ fixed 0 ending ∷ []) (optional_tokens o ++ ts) ≡ before (all_at 0 (optional_tokens o) ++ all_at 0 ts) (fair_closing m.architecture o) all_read
unfolding run
run_last r o ts m h hs =
    ap (λ (us : List Token). run m (closing_item r false ∷ fixed 0 ending ∷ []) (optional_tokens o ++ us)) (sym (append-nil ts))
    ∙ run_closing r false ending o ts m [] [] h hs

-- ---- the file

-- the bracket behind the ports, and what follows
run_ports_foot : (ts : List Token) (m : Memory) (is' : List Item) (rest : List Token) → Spell ports_foot_symbols ts
    → run m (ports_end ∷ (fixed_all 0 rest_of_ports_foot ++ is')) (ts ++ rest) ≡ before (all_at 0 ts) true (run m is' rest)
run_ports_foot [] m is' rest h = absurd h
run_ports_foot (t ∷ ts) m is' rest h =
    run_token m m ports_end _ t (ts ++ rest) [] 0 true (rw h.0 refl) refl refl refl
    ∙ ap (before (0 ∷ []) true) (run_fixed 0 rest_of_ports_foot ts m is' rest h.1)

-- the end behind the processes, and what follows
run_file_foot : (r : Revision) (ts : List Token) (m : Memory) (is' : List Item) (rest : List Token) → Spell foot_symbols ts
    → run m (processes_end r ∷ fixed 0 (word ARCHITECTURE) ∷ is') (ts ++ rest) ≡ before (all_at 0 ts) true (run m is' rest)
run_file_foot r [] m is' rest h = absurd h
run_file_foot r (t ∷ ts) m is' rest h =
    run_token m m (processes_end r) _ t (ts ++ rest) [] 0 true (rw h.0 refl) (rw h.0 refl) refl refl
    ∙ ap (before (0 ∷ []) true) (run_fixed 0 (word ARCHITECTURE ∷ []) ts m is' rest h.1)

-- what is remembered behind the entity's name, and behind its ports
abbrev pub entity_memory : Bool → File → Memory
entity_memory g f = remember (no_memory g) entity_name f.entity

abbrev pub ports_memory : Bool → File → Memory
ports_memory g f = after_ports (after_port (entity_memory g f) f.first_port) f.other_ports

abbrev pub architecture_memory : Bool → File → Memory
architecture_memory g f = remember (ports_memory g f) architecture_name f.architecture

abbrev pub fair_file : Bool → File → Bool
fair_file g f =
    not (among (no_memory g).known.taken f.entity.text)
    && (all_new (entity_memory g f).known.taken (port_texts f.first_port)
    && (fair_ports (after_port (entity_memory g f) f.first_port) f.other_ports
    && (fair_closing (ports_memory g f).entity f.entity_closing
    && (not (among (ports_memory g f).known.taken f.architecture.text)
    && (bytes_eq f.of_entity.text (ports_memory g f).entity
    && (fair_processes (ports_memory g f).known f.processes
    && fair_closing f.architecture.text f.architecture_closing))))))

pub run_file : (r : Revision) (g : Bool) (f : File) → IsFile r f → run (no_memory g) (file_items r) (file_tokens f) ≡ record { left = Some []; depths = file_depths f; fair = fair_file g f }
run_file r g f h =
    let m0 = no_memory g in
    let m1 = entity_memory g f in
    let m2 = after_port m1 f.first_port in
    let m3 = ports_memory g f in
    let m4 = architecture_memory g f in
    let r12 = optional_tokens f.architecture_closing ++ f.last in
    let r10 = f.foot ++ r12 in
    let r9 = flat_map process_tokens f.processes ++ r10 in
    let r8 = f.body_head ++ r9 in
    let r7 = f.architecture ∷ f.of_word ∷ f.of_entity ∷ r8 in
    let r5 = optional_tokens f.entity_closing ++ (f.architecture_head ++ r7) in
    let r4 = f.ports_foot ++ r5 in
    let r3 = flat_map further_port_tokens f.other_ports ++ r4 in
    let r2 = port_tokens f.first_port ++ r3 in
    let r1 = f.ports_head ++ r2 in
    let i11 = closing_item r false ∷ fixed 0 ending ∷ [] in
    let i9 = processes_end r ∷ fixed 0 (word ARCHITECTURE) ∷ i11 in
    let i8 = fixed_all 0 body_symbols ++ i9 in
    let i7 = architecture_name ∷ fixed 0 (word OF) ∷ entity_again ∷ i8 in
    let i6 = closing_item r true ∷ fixed 0 (word ARCHITECTURE) ∷ i7 in
    let i3 = fixed_all 0 rest_of_ports_foot ++ i6 in
    let i2 = port_items ++ i3 in
    let i1 = fixed_all 0 ports_head_symbols ++ i2 in
    let fair_end = fair_closing m3.entity f.entity_closing in
    let head = run_fixed 0 head_symbols f.head m0 (entity_name ∷ i1) (f.entity ∷ r1) h.head in
    let entity = run_token m0 m1 entity_name i1 f.entity r1 [] 0 (not (among m0.known.taken f.entity.text)) (rw h.entity refl) refl refl refl in
    let ports_head = run_fixed 0 ports_head_symbols f.ports_head m1 i2 r2 h.ports_head in
    let first = run_port f.first_port m1 (ports_end ∷ i3) r3 h.first_port in
    let others = run_further_ports f.other_ports m2 i3 r4 h.other_ports in
    let ports_foot = run_ports_foot f.ports_foot m3 i6 r5 h.ports_foot in
    let end = run_closing r true (word ARCHITECTURE) f.entity_closing f.architecture_head m3 i7 r7 h.entity_closing h.architecture_head in
    let architecture = run_token m3 m4 architecture_name (fixed 0 (word OF) ∷ entity_again ∷ i8) f.architecture (f.of_word ∷ f.of_entity ∷ r8) [] 0 (not (among m3.known.taken f.architecture.text)) (rw h.architecture refl) refl refl refl in
    let of_word = run_token m4 m4 (fixed 0 (word OF)) (entity_again ∷ i8) f.of_word (f.of_entity ∷ r8) [] 0 true (rw h.of_word refl) refl refl refl in
    let of_entity = run_token m4 m4 entity_again i8 f.of_entity r8 [] 0 (bytes_eq f.of_entity.text m3.entity) (rw h.of_entity refl) refl refl refl in
    let body = run_fixed 0 body_symbols f.body_head m4 i9 r9 h.body_head in
    let processes = run_processes r f.processes m4 (fixed 0 (word ARCHITECTURE) ∷ i11) r10 h.processes in
    let foot = run_file_foot r f.foot m4 i11 r12 h.foot in
    let last = run_last r f.architecture_closing f.last m4 h.architecture_closing h.last in
    head ∙ ap (before (all_at 0 f.head) true) (entity
    ∙ ap (before (0 ∷ []) (not (among m0.known.taken f.entity.text))) (ports_head
    ∙ ap (before (all_at 0 f.ports_head) true) (first
    ∙ ap (before (all_at 0 (port_tokens f.first_port)) (all_new m1.known.taken (port_texts f.first_port))) (others
    ∙ ap (before (all_at 0 (flat_map further_port_tokens f.other_ports)) (fair_ports m2 f.other_ports)) (ports_foot
    ∙ ap (before (all_at 0 f.ports_foot) true) (end
    ∙ ap (before (all_at 0 (optional_tokens f.entity_closing) ++ all_at 0 f.architecture_head) fair_end) (architecture
    ∙ ap (before (0 ∷ []) (not (among m3.known.taken f.architecture.text))) (of_word
    ∙ ap (before (0 ∷ []) true) (of_entity
    ∙ ap (before (0 ∷ []) (bytes_eq f.of_entity.text m3.entity)) (body
    ∙ ap (before (all_at 0 f.body_head) true) (processes
    ∙ ap (before (flat_map process_depths f.processes) (fair_processes m3.known f.processes)) (foot
    ∙ ap (before (all_at 0 f.foot) true) last))))))))))))
    ∙ simp (append_assoc, append-nil, and-true)
